-- A history of one record: commands submitted to it and orders completed, one after the other, and what becomes of the orders (RULES 9).
use Rattle.std.specs.Prelude.{◌≡◌, Bool, true, false, cond, ◌&&◌, not, List, [], ◌∷◌, ◌++◌, ℕ, eqb}
use Rattle.passthrough_fields.specs.Fields.{protocol}
use Rattle.passthrough_order.specs.declared.Order.{Order}
use Rattle.passthrough_order.specs.Order.{reset}
use Rattle.passthrough.specs.declared.Pending.{Pending}
use Rattle.passthrough.specs.declared.Taken.{Taken}
use Rattle.passthrough.specs.declared.Ended.{Ended}
use Rattle.passthrough.specs.Record.{empty, nothing_pending, reset_over}
use Rattle.passthrough.specs.Submit.{submit}
use Rattle.passthrough.specs.Complete as Complete
use Rattle.passthrough_end.specs.End.{end_status, end_sense}
use Rattle.passthrough.specs.Complete.{complete}

-- The orders that wait in a record, the oldest first.
abbrev pub waiting : Pending → List Order
waiting pending = cond (nothing_pending pending) [] (cond (reset_over pending) (pending.older ∷ pending.order ∷ []) (pending.order ∷ []))

-- A step: a command is submitted, or what is pending is completed.
pub data Step : Type 0 where
  submitting : (command registers block : List ℕ) (declared edition form : ℕ) (sense : List ℕ) → Step
  completing : (registers : List ℕ) (form : ℕ) (sense : List ℕ) → Step

-- The record after a step.
abbrev pub after : Pending → Step → Pending
after pending (submitting command registers block declared edition form sense) = (submit pending command registers block declared edition form sense).submitted.next
after pending (completing registers form sense) = (complete pending registers form sense).completed.next

-- The order that is taken: the one that is answered to a command which is not refused, and not protocol 15.
abbrev pub taken_of : ℕ → Taken → List Order
taken_of p answered = cond (eqb answered.number 0 && not (eqb p 15)) (answered.order ∷ []) []

abbrev pub takes : Pending → Step → List Order
takes pending (submitting command registers block declared edition form sense) = taken_of (protocol command) (submit pending command registers block declared edition form sense).submitted.taken
takes pending (completing registers form sense) = []

-- A completion that is not refused settles the order, which ends, and before it the older order where it is reported as lost.
abbrev pub settled_by : Pending → Ended → List Order
settled_by pending answered = cond (eqb answered.number 0) (cond (eqb answered.lost 1) (pending.older ∷ pending.order ∷ []) (pending.order ∷ [])) []

abbrev pub settles : Pending → Step → List Order
settles pending (submitting command registers block declared edition form sense) = []
settles pending (completing registers form sense) = settled_by pending (complete pending registers form sense).completed.ended

abbrev pub ends : Pending → Step → Bool
ends pending (submitting command registers block declared edition form sense) = false
ends pending (completing registers form sense) = eqb (complete pending registers form sense).completed.ended.number 0

-- A book that is kept of the steps: the record, the orders that were taken, those that were settled, and those that were taken since
-- the last completion that was not refused; each list in the order of its entries.
pub record Book : Type 0 where
  pub pending : Pending
  pub taken : List Order
  pub settled : List Order
  pub outstanding : List Order

abbrev pub begin : Book
begin = record { pending = empty; taken = []; settled = []; outstanding = [] }

abbrev pub entered : Book → Step → Book
entered book step =
    record {
      pending = after book.pending step;
      taken = book.taken ++ takes book.pending step;
      settled = book.settled ++ settles book.pending step;
      outstanding = cond (ends book.pending step) [] (book.outstanding ++ takes book.pending step);
    }

unfoldable pub book_of : Book → List Step → Book
book_of book [] = book
book_of book (step ∷ steps) = book_of (entered book step) steps

-- Orders that may wait at a time: none, one, or one that is no reset and a reset behind it.
abbrev pub Stacked : List Order → Type 0
Stacked [] = Unit {0}
Stacked (order ∷ []) = Unit {0}
Stacked (older ∷ order ∷ []) = (reset older.protocol ≡ false) × (reset order.protocol ≡ true)
Stacked (older ∷ order ∷ next ∷ more) = ⊥

-- What a completion with all its registers and sense room answers where these orders wait: with none it is refused; else the last of
-- them ends, with its own fields, and the one before it is lost.
abbrev pub completion_of : Pending → List Order → List ℕ → ℕ → List ℕ → Complete.Outcome
completion_of pending [] registers form sense = Complete.refused pending form 15 sense
completion_of pending (order ∷ []) registers form sense =
    Complete.outcome (Complete.answer empty 0 (end_status order registers) 0 0) (end_sense order registers form sense)
completion_of pending (older ∷ order ∷ more) registers form sense =
    Complete.outcome (Complete.answer empty 0 (end_status order registers) 1 older.protocol) (end_sense order registers form sense)
