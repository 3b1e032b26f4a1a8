-- Completing what is pending (RULES 9).
use Rattle.std.specs.Prelude.{cond, List, [], ◌∷◌, ℕ, eqb, length}
use Rattle.rules.specs.Bits.{flag}
use Rattle.rules.specs.First.{Check, ◌when◌, first}
use Rattle.refusals.specs.Refusal.{row_of, refused_sense}
use Rattle.passthrough_checks.specs.Checks.{wrong_size}
use Rattle.passthrough_end.specs.End.{end_status, end_sense}
use Rattle.passthrough.specs.declared.Pending.{Pending}
use Rattle.passthrough.specs.declared.Completed.{Completed}
use Rattle.passthrough.specs.Record.{empty, nothing_pending, reset_over}

abbrev pub checks_of : Pending → List ℕ → ℕ → List Check
checks_of pending registers sense =
    (1 when wrong_size (length registers) sense)
    ∷ (15 when nothing_pending pending)
    ∷ []

unfoldable pub refusal_of : Pending → List ℕ → ℕ → ℕ
refusal_of pending registers sense = first (checks_of pending registers sense)

-- Everything that comes back, and every lent byte that can change.
pub record Outcome : Type 0 where
  pub completed : Completed
  pub sense : List ℕ

abbrev pub outcome : Completed → List ℕ → Outcome
outcome completed sense = record { completed = completed; sense = sense }

abbrev pub answer : Pending → ℕ → ℕ → ℕ → ℕ → Completed
answer next number status lost lost_protocol =
    record { next = next; ended = record { number = number; status = status; lost = lost; lost_protocol = lost_protocol } }

-- An order that a reset is over is lost: 1 says so, and its protocol is told; it has no status. Where none is lost both are 0.
abbrev pub lost : Pending → ℕ
lost pending = flag (reset_over pending)

abbrev pub lost_protocol : Pending → ℕ
lost_protocol pending = cond (reset_over pending) pending.older.protocol 0

-- Completion ends the order, or the reset over it, by its own fields, and empties the record.
abbrev pub ended : Pending → List ℕ → ℕ → List ℕ → Outcome
ended pending registers form sense =
    outcome (answer empty 0 (end_status pending.order registers) (lost pending) (lost_protocol pending)) (end_sense pending.order registers form sense)

-- A refusal hands back the record that it was given, and nothing is lost.
abbrev pub refused : Pending → ℕ → ℕ → List ℕ → Outcome
refused pending form number sense = outcome (answer pending number (row_of number).status 0 0) (refused_sense form number sense)

unfoldable pub complete : Pending → List ℕ → ℕ → List ℕ → Outcome
complete pending registers form sense =
    cond (eqb (refusal_of pending registers (length sense)) 0) (ended pending registers form sense)
    (refused pending form (refusal_of pending registers (length sense)) sense)
