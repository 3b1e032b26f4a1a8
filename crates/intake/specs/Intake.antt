-- An intake of IDENTIFY data off the wire, and what a run of bytes does to it (RULES 12).
use Rattle.std.specs.Prelude.{ℕ, ◌+◌, ◌-◌, ◌%◌, Bool, cond, not, ◌||◌, List, [], length, take, ◌==◌, nat_lt}
use Rattle.rules.specs.Bits.{flag}
use Rattle.room.specs.Room.{written}
use Rattle.checksum.specs.Checksum.{sum_of}
use Rattle.intake.specs.declared.Intake.{Intake}
use Rattle.intake.specs.declared.Offered.{Offered}
use Rattle.intake.specs.declared.Took.{Took}

abbrev pub intake : ℕ → ℕ → Intake
intake have sum = record { have = have; sum = sum }

abbrev pub empty : Intake
empty = intake 0 0

-- 1: a store that is not of 512 bytes, or an intake that claims more than 512.
abbrev pub wrong_intake : ℕ → ℕ → Bool
wrong_intake have store = not (store == 512) || nat_lt 512 have

-- The bytes of a run that it uses: as many as it lacks, and so none once it is complete.
abbrev pub used_by : ℕ → List ℕ → List ℕ
used_by have run = take (512 - have) run

abbrev pub after : Intake → List ℕ → Intake
after held bytes = intake (held.have + length bytes) ((held.sum + sum_of bytes) % 256)

-- Complete: it has 512 bytes.
abbrev pub complete : ℕ → Bool
complete have = have == 512

-- Everything that comes back, and every lent byte that can change.
pub record Outcome : Type 0 where
  pub took : Took
  pub store : List ℕ

abbrev pub outcome : Took → List ℕ → Outcome
outcome took store = record { took = took; store = store }

abbrev pub answer : Intake → ℕ → ℕ → ℕ → Took
answer next used number complete = record { next = next; used = used; number = number; complete = complete }

-- A refusal returns the intake that it was given; else the bytes used stand behind those that it had.
abbrev pub used : Intake → List ℕ → List ℕ → Outcome
used held store bytes =
    outcome (answer (after held bytes) (length bytes) 0 (flag (complete (held.have + length bytes)))) (written store held.have bytes)

unfoldable pub taken : Intake → List ℕ → List ℕ → Outcome
taken held store run =
    cond (wrong_intake held.have (length store)) (outcome (answer held 0 1 0) store) (used held store (used_by held.have run))

-- Its block: the store once it is complete, no bytes before.
abbrev pub block_of : ℕ → List ℕ → List ℕ
block_of have store = cond (complete have) store []

-- The same as a number, for callers that cut the store themselves: how many of its bytes are the block.
abbrev pub offer : ℕ → ℕ → Offered
offer number count = record { number = number; count = count }

unfoldable pub offered : ℕ → ℕ → Offered
offered have store = cond (wrong_intake have store) (offer 1 0) (cond (complete have) (offer 0 512) (offer 0 0))
