-- What is done with intakes: INQUIRY and the roll, from their blocks (RULES 12).
use Rattle.std.specs.Prelude.{cond, not, List, [], ◌∷◌, ℕ, eqb, ltb, length}
use Rattle.rules.specs.First.{Check, ◌when◌, first}
use Rattle.room.specs.Room.{written}
use Rattle.intake.specs.Intake.{wrong_intake, block_of}
use Rattle.port.specs.declared.Ports.{Ports}
use Rattle.inquiry_asked.specs.Request.{request}
use Rattle.inquiry.specs.Inquiry.{refused, inquiry}
use Rattle.inquiry.specs.Inquiry as Inquiry
use Rattle.roll.specs.declared.Counted.{Counted}
use Rattle.roll.specs.Roll as Roll
use Rattle.roll.specs.Roll.{roll}
use Rattle.gathering.specs.Gathering.{gathered, wrong_run}

-- The INQUIRY entry with an intake's block for its block; an intake that is refused is a lent piece of a wrong size, 1.
unfoldable pub inquiry_of : ℕ → List ℕ → List ℕ → List ℕ → List ℕ → List ℕ → Ports → List ℕ → ℕ → List ℕ → List ℕ → Inquiry.Outcome
inquiry_of have store command signature texts reply ports address form room sense =
    cond (wrong_intake have (length store)) (refused form 1 room sense)
    (inquiry (request command (block_of have store) signature texts reply ports address) form room sense)

-- The roll of a run: 1 where the intakes are refused, the number with which the roll of their blocks is, 8 where room is short of the
-- blocks.
abbrev pub checks : List ℕ → List ℕ → ℕ → ℕ → List Check
checks haves stores room rows =
    (1 when wrong_run haves (length stores))
    ∷ (Roll.refusal_of (gathered haves stores) rows when not (eqb (Roll.refusal_of (gathered haves stores) rows) 0))
    ∷ (8 when ltb room (length (gathered haves stores)))
    ∷ []

unfoldable pub refusal_of : List ℕ → List ℕ → ℕ → ℕ → ℕ
refusal_of haves stores room rows = first (checks haves stores room rows)

-- Everything that comes back, and everything lent that can change.
pub record Outcome : Type 0 where
  pub counted : Counted
  pub room : List ℕ
  pub rows : List ℕ

abbrev pub outcome : Counted → List ℕ → List ℕ → Outcome
outcome counted room rows = record { counted = counted; room = room; rows = rows }

-- The roll of the blocks, which come to stand in the room.
abbrev pub rolled : List ℕ → List ℕ → List ℕ → Outcome
rolled blocks room rows = outcome (roll blocks rows).counted (written room 0 blocks) (roll blocks rows).room

unfoldable pub roll_of : List ℕ → List ℕ → List ℕ → List ℕ → Outcome
roll_of haves stores room rows =
    cond (eqb (refusal_of haves stores (length room) (length rows)) 0) (rolled (gathered haves stores) room rows)
    (outcome (record { number = refusal_of haves stores (length room) (length rows); blocks = 0; drives = 0 }) room rows)
