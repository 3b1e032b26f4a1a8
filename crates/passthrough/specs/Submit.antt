-- Submitting a pass-through command: what comes of it (RULES 9).
use Rattle.std.specs.Prelude.{Bool, cond, not, false, List, ℕ, eqb, length}
use Rattle.room.specs.Room.{written}
use Rattle.refusals.specs.Refusal.{row_of, refused_sense, no_status, check_condition}
use Rattle.sense.specs.Sense.{sense_data, registers as told}
use Rattle.passthrough_order.specs.declared.Order.{Order}
use Rattle.passthrough_fields.specs.Fields.{protocol}
use Rattle.passthrough_length.specs.Length.{block_size, length_of}
use Rattle.passthrough_order.specs.Order.{no_order, order_of}
use Rattle.passthrough_checks.specs.Checks as Check
use Rattle.passthrough.specs.declared.Pending.{Pending}
use Rattle.passthrough.specs.declared.Submitted.{Submitted}
use Rattle.passthrough.specs.declared.Taken.{Taken}
use Rattle.passthrough.specs.Record.{nothing_pending, reset_pending, taking}

-- The edition by which a command is read: 2 names the later one, and every other number the first.
abbrev pub is_later : ℕ → Bool
is_later edition = eqb edition 2

-- The number of the first check that applies, and 0 where none does.
abbrev pub refusal_of : Pending → List ℕ → List ℕ → List ℕ → ℕ → ℕ → ℕ → ℕ
refusal_of pending command registers block declared edition sense =
    Check.refusal_of (not (nothing_pending pending)) (reset_pending pending) (is_later edition) command (length registers) block declared sense

-- The order that a command makes, with the length of its data.
abbrev pub made : List ℕ → List ℕ → ℕ → ℕ → Order
made command block declared edition = order_of command (length_of (block_size (is_later edition) block command) command declared)

-- Everything that comes back, and every lent byte that can change.
pub record Outcome : Type 0 where
  pub submitted : Submitted
  pub sense : List ℕ

abbrev pub outcome : Submitted → List ℕ → Outcome
outcome submitted sense = record { submitted = submitted; sense = sense }

-- What comes back where no order is made.
abbrev pub none_taken : ℕ → ℕ → Taken
none_taken number status = record { number = number; status = status; order = no_order }

abbrev pub answer : Pending → ℕ → ℕ → Order → Submitted
answer next number status order = record { next = next; taken = record { number = number; status = status; order = order } }

-- A refusal answers a zero order and hands back the record that it was given.
abbrev pub refused : Pending → ℕ → ℕ → List ℕ → Outcome
refused pending form number sense = outcome (answer pending number (row_of number).status no_order) (refused_sense form number sense)

-- Protocol 15 makes no order and leaves the record: it tells the lent registers, with EXTEND zero, as CHECK CONDITION.
abbrev pub reported : Pending → List ℕ → ℕ → List ℕ → Outcome
reported pending registers form sense =
    outcome (answer pending 0 check_condition no_order) (written sense 0 (sense_data form 0x01 0x00 0x1D (told false registers)))

-- An order that is taken is held by the record, and has no status until it is completed.
abbrev pub taken : Pending → Order → List ℕ → Outcome
taken pending order sense = outcome (answer (taking pending order) 0 no_status order) sense

unfoldable pub submit : Pending → List ℕ → List ℕ → List ℕ → ℕ → ℕ → ℕ → List ℕ → Outcome
submit pending command registers block declared edition form sense =
    cond (eqb (refusal_of pending command registers block declared edition (length sense)) 0)
    (cond (eqb (protocol command) 15) (reported pending registers form sense) (taken pending (made command block declared edition) sense))
    (refused pending form (refusal_of pending command registers block declared edition (length sense)) sense)
