-- A history of the record: every order that was taken ends or is lost once, or still waits.
use mathlib.Core.Path.{◌≡◌, refl, sym, ap, subst, ◌∙◌}
use mathlib.Core.Bool.{Bool, true, false, cond, not, ◌&&◌, true≢false}
use mathlib.Core.List.{List, [], ◌∷◌, ◌++◌, append-nil, append_assoc}
use Prim.Native.Nat.{ℕ, ◌≤◌}
use lib.Dec.{eqb}
use lib.ListN.{length}
use borrow.Author.Tests.{eqb-true, eq-eqb, le-ltb}
use Rattle.rules.specs.Bits.{flag}
use Rattle.rules.proofs.First.{silent, neither}
use Rattle.passthrough_fields.specs.Fields.{protocol}
use Rattle.passthrough_order.specs.declared.Order.{Order}
use Rattle.passthrough_order.specs.Order.{reset}
use Rattle.passthrough.specs.declared.Pending.{Pending}
use Rattle.passthrough.specs.Record.{nothing_pending, reset_over, reset_pending, taking}
use Rattle.passthrough.specs.Submit as Submit
use Rattle.passthrough.specs.Submit.{submit}
use Rattle.passthrough.specs.Complete as Complete
use Rattle.passthrough.specs.Complete.{complete}
use Rattle.passthrough.specs.History.{waiting, Step, submitting, completing, after, taken_of, takes, settled_by, settles, ends, Book, begin, entered, book_of, Stacked, completion_of}
use Rattle.passthrough.proofs.Over.{reset_whole, taken_over}
use Rattle.demands.specs.Promises.{Accounted, EveryOrderAccounted}

-- Where a reset is taken over an order, no reset is over it yet, and it is none itself.
not_over : (p : Pending) → reset_pending p ≡ false → reset_over p ≡ false
not_over p r = (neither (reset_over p) (not (nothing_pending p) && reset p.order.protocol) r).0

no_reset : (p : Pending) → nothing_pending p ≡ false → reset_pending p ≡ false → reset p.order.protocol ≡ false
no_reset p n r = rw n at (neither (reset_over p) (not (nothing_pending p) && reset p.order.protocol) r).1

-- A command as it is submitted to a record: refused and told it leaves the record, taken its order waits behind what waited.
module _ (p : Pending) (command registers block : List ℕ) (declared edition form : ℕ) (sense : List ℕ) where
  abbrev refusal : ℕ
  refusal = Submit.refusal_of p command registers block declared edition (length sense)

  abbrev order : Order
  order = Submit.made command block declared edition

  abbrev outcome : Bool → Bool → Submit.Outcome
  outcome t told = cond t (cond told (Submit.reported p registers form sense) (Submit.taken p order sense)) (Submit.refused p form refusal sense)

  behind : (free : Bool) → nothing_pending p ≡ free → (free ≡ false → (reset (protocol command) ≡ true) × (reset_pending p ≡ false)) → waiting (taking p order) ≡ waiting p ++ (order ∷ [])
  behind true n o = rw n
  behind false n o = rw (n, not_over p (o refl).1)

  stacked : (free : Bool) → nothing_pending p ≡ free → (free ≡ false → (reset (protocol command) ≡ true) × (reset_pending p ≡ false)) → Stacked (waiting (taking p order))
  stacked true n o = rw n tt
  stacked false n o = rw (n, reset_whole command _ (o refl).0) (no_reset p n (o refl).1, (o refl).0)

  submit_waits : waiting (submit p command registers block declared edition form sense).submitted.next ≡ waiting p ++ taken_of (protocol command) (submit p command registers block declared edition form sense).submitted.taken
  unfolding submit
  submit_waits = by (eqb refusal 0) (eqb (protocol command) 15) refl refl
    where
      by : (t told : Bool) → eqb refusal 0 ≡ t → eqb (protocol command) 15 ≡ told → waiting (outcome t told).submitted.next ≡ waiting p ++ taken_of (protocol command) (outcome t told).submitted.taken
      by false told e f = rw e (sym (append-nil (waiting p)))
      by true true e f = rw f (sym (append-nil (waiting p)))
      by true false e f = rw f (behind (nothing_pending p) refl (taken_over p command registers block declared edition (length sense) (eqb-true refusal 0 e) f))

  submit_stacked : Stacked (waiting p) → Stacked (waiting (submit p command registers block declared edition form sense).submitted.next)
  unfolding submit
  submit_stacked s = by (eqb refusal 0) (eqb (protocol command) 15) refl refl
    where
      by : (t told : Bool) → eqb refusal 0 ≡ t → eqb (protocol command) 15 ≡ told → Stacked (waiting (outcome t told).submitted.next)
      by false told e f = s
      by true true e f = s
      by true false e f = stacked (nothing_pending p) refl (taken_over p command registers block declared edition (length sense) (eqb-true refusal 0 e) f)

-- A completion: refused it leaves the record, and else it settles all that waited.
module _ (p : Pending) (registers : List ℕ) (form : ℕ) (sense : List ℕ) where
  abbrev ending : ℕ
  ending = Complete.refusal_of p registers (length sense)

  abbrev end : Bool → Complete.Outcome
  end t = cond t (Complete.ended p registers form sense) (Complete.refused p form ending sense)

  some : ending ≡ 0 → nothing_pending p ≡ false
  unfolding Complete.refusal_of
  some e = (silent (Complete.checks_of p registers (length sense)) refl e).1.0

  complete_waits : waiting (complete p registers form sense).completed.next ≡ cond (eqb (complete p registers form sense).completed.ended.number 0) [] (waiting p)
  unfolding complete
  complete_waits = by (eqb ending 0) refl
    where
      by : (t : Bool) → eqb ending 0 ≡ t → waiting (end t).completed.next ≡ cond (eqb (end t).completed.ended.number 0) [] (waiting p)
      by true e = refl
      by false e = rw e

  complete_settles : settled_by p (complete p registers form sense).completed.ended ≡ cond (eqb (complete p registers form sense).completed.ended.number 0) (waiting p) []
  unfolding complete
  complete_settles = by (eqb ending 0) refl
    where
      all : (over : Bool) → cond (eqb (flag over) 1) (p.older ∷ p.order ∷ []) (p.order ∷ []) ≡ cond over (p.older ∷ p.order ∷ []) (p.order ∷ [])
      all true = refl
      all false = refl

      by : (t : Bool) → eqb ending 0 ≡ t → settled_by p (end t).completed.ended ≡ cond (eqb (end t).completed.ended.number 0) (waiting p) []
      by true e = all (reset_over p) ∙ rw (some (eqb-true ending 0 e))
      by false e = rw e

  complete_stacked : Stacked (waiting p) → Stacked (waiting (complete p registers form sense).completed.next)
  unfolding complete
  complete_stacked s = by (eqb ending 0)
    where
      by : (t : Bool) → Stacked (waiting (end t).completed.next)
      by true = tt
      by false = s

  -- With all its registers and sense room it goes by what waits.
  complete_told : length registers ≡ 11 → 22 ≤ length sense → complete p registers form sense ≡ completion_of p (waiting p) registers form sense
  unfolding complete Complete.refusal_of
  complete_told l r = by (nothing_pending p) (reset_over p) refl refl
    where
      by : (free over : Bool) → nothing_pending p ≡ free → reset_over p ≡ over → complete p registers form sense ≡ completion_of p (waiting p) registers form sense
      by true over n o = rw (n, eq-eqb _ _ l, le-ltb _ _ r)
      by false true n o = rw (n, o, eq-eqb _ _ l, le-ltb _ _ r)
      by false false n o = rw (n, o, eq-eqb _ _ l, le-ltb _ _ r)

-- So each step is entered right.
step_waits : (p : Pending) (step : Step) → waiting (after p step) ≡ cond (ends p step) [] (waiting p ++ takes p step)
step_waits p (submitting command registers block declared edition form sense) = submit_waits p command registers block declared edition form sense
step_waits p (completing registers form sense) = complete_waits p registers form sense ∙ ap (cond (ends p (completing registers form sense)) []) (sym (append-nil (waiting p)))

step_settles : (p : Pending) (step : Step) → settles p step ≡ cond (ends p step) (waiting p) []
step_settles p (submitting command registers block declared edition form sense) = refl
step_settles p (completing registers form sense) = complete_settles p registers form sense

step_stacked : (p : Pending) (step : Step) → Stacked (waiting p) → Stacked (waiting (after p step))
step_stacked p (submitting command registers block declared edition form sense) = submit_stacked p command registers block declared edition form sense
step_stacked p (completing registers form sense) = complete_stacked p registers form sense

takes_or_ends : (p : Pending) (step : Step) → ends p step ≡ true → takes p step ≡ []
takes_or_ends p (submitting command registers block declared edition form sense) e = absurd (true≢false (sym e))
takes_or_ends p (completing registers form sense) e = refl

-- A book that is right of the steps so far.
record Right (book : Book) : Type 0 where
  holds : waiting book.pending ≡ book.outstanding
  few : Stacked (waiting book.pending)
  each_once : book.taken ≡ book.settled ++ book.outstanding

module _ (book : Book) (right : Right book) (step : Step) where
  abbrev p : Pending
  p = book.pending

  once : (t : Bool) → ends p step ≡ t → book.taken ++ takes p step ≡ (book.settled ++ cond t (waiting p) []) ++ cond t [] (book.outstanding ++ takes p step)
  once true e = rw (takes_or_ends p step e, append-nil book.taken, right.holds, append-nil (book.settled ++ book.outstanding)) right.each_once
  once false e = rw (right.each_once, append-nil) (append_assoc book.settled book.outstanding (takes p step))

  right_entered : Right (entered book step)
  right_entered =
      record {
        holds = step_waits p step ∙ rw right.holds;
        few = step_stacked p step right.few;
        each_once = once (ends p step) refl ∙ rw (step_settles p step);
      }

right_of : (book : Book) → Right book → (steps : List Step) → Right (book_of book steps)
unfolding book_of
right_of book right [] = right
right_of book right (step ∷ steps) = right_of (entered book step) (right_entered book right step) steps

pub every_order_accounted : EveryOrderAccounted
every_order_accounted steps =
    let right = right_of begin (record { holds = refl; few = tt; each_once = refl }) steps in
    record {
      holds = right.holds;
      few = subst Stacked right.holds right.few;
      next_completion = λ left form room l r. complete_told (book_of begin steps).pending left form room l r ∙ rw right.holds;
      each_once = right.each_once;
    }
