-- The blocks of a run of intakes, gathered into lent room (RULES 12).
use Rattle.std.specs.Prelude.{Bool, false, cond, ◌||◌, not, List, [], ◌∷◌, ◌++◌, ℕ, ◌*◌, eqb, ltb, length, take, drop}
use Rattle.rules.specs.First.{Check, ◌when◌, first}
use Rattle.room.specs.Room.{written}
use Rattle.checksum.specs.Checksum.{any_damaged}
use Rattle.intake.specs.Intake.{block_of}
use Rattle.roll.specs.Roll as Roll
use Rattle.gathering.specs.declared.Gathered.{Gathered}

-- Some intake claims more than 512 bytes.
unfoldable pub claims_too_much : List ℕ → Bool
claims_too_much [] = false
claims_too_much (have ∷ haves) = ltb 512 have || claims_too_much haves

-- The blocks of a run of intakes, whose stores stand one after the other.
unfoldable pub gathered : List ℕ → List ℕ → List ℕ
gathered [] stores = []
gathered (have ∷ haves) stores = block_of have (take 512 stores) ++ gathered haves (drop 512 stores)

-- 1: stores of another size than 512 bytes an intake, or an intake that claims more than 512.
abbrev pub wrong_run : List ℕ → ℕ → Bool
wrong_run haves stores = not (eqb stores (512 * length haves)) || claims_too_much haves

-- Gathering them: 18 where one of them is damaged, 8 where the room is shorter than their bytes.
abbrev pub gather_checks : List ℕ → List ℕ → ℕ → List Check
gather_checks haves stores room =
    (1 when wrong_run haves (length stores))
    ∷ (18 when any_damaged (Roll.blocks (gathered haves stores)))
    ∷ (8 when ltb room (length (gathered haves stores)))
    ∷ []

unfoldable pub gather_refusal : List ℕ → List ℕ → ℕ → ℕ
gather_refusal haves stores room = first (gather_checks haves stores room)

pub record GatherOutcome : Type 0 where
  pub gathered : Gathered
  pub room : List ℕ

abbrev pub gather_outcome : Gathered → List ℕ → GatherOutcome
gather_outcome gathered room = record { gathered = gathered; room = room }

abbrev pub given : ℕ → ℕ → Gathered
given number count = record { number = number; count = count }

unfoldable pub gather_of : List ℕ → List ℕ → List ℕ → GatherOutcome
gather_of haves stores room =
    cond (eqb (gather_refusal haves stores (length room)) 0)
    (gather_outcome (given 0 (length (gathered haves stores))) (written room 0 (gathered haves stores)))
    (gather_outcome (given (gather_refusal haves stores (length room)) 0) room)
