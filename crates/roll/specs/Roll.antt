-- The roll: which drive each block of a run is (RULES 11).
use Rattle.std.specs.Prelude.{Bool, false, cond, ◌||◌, not, List, [], ◌∷◌, ◌++◌, map, ℕ, zero, suc, ◌*◌, ◌/◌, ◌%◌, eqb, ltb, length, take, drop}
use Rattle.rules.specs.First.{Check, ◌when◌, first}
use Rattle.room.specs.Room.{written}
use Rattle.checksum.specs.Checksum.{any_damaged}
use Rattle.drive.specs.Drive.{same_drive}
use Rattle.roll.specs.declared.Counted.{Counted}

-- The first `count` blocks of 512 bytes, which stand one after the other in one buffer; and all of them.
unfoldable pub blocks_in : ℕ → List ℕ → List (List ℕ)
blocks_in zero bytes = []
blocks_in (suc count) bytes = take 512 bytes ∷ blocks_in count (drop 512 bytes)

abbrev pub blocks : List ℕ → List (List ℕ)
blocks bytes = blocks_in (length bytes / 512) bytes

-- Block i of them.
abbrev pub block_at : List ℕ → ℕ → List ℕ
block_at bytes i = take 512 (drop (512 * i) bytes)

-- A drive that a list of blocks has already.
unfoldable pub known : List ℕ → List (List ℕ) → Bool
known block [] = false
known block (drive ∷ drives) = same_drive drive block || known block drives

-- A drive's first block stands for it.
abbrev pub met : List (List ℕ) → List ℕ → List (List ℕ)
met seen block = cond (known block seen) seen (seen ++ (block ∷ []))

unfoldable pub drives_from : List (List ℕ) → List (List ℕ) → List (List ℕ)
drives_from seen [] = seen
drives_from seen (block ∷ rest) = drives_from (met seen block) rest

-- The different drives, in the order of their first appearance.
abbrev pub drives : List (List ℕ) → List (List ℕ)
drives run = drives_from [] run

-- A block's row: the place of its drive among them, from 1.
unfoldable pub row_in : List (List ℕ) → List ℕ → ℕ
row_in [] block = 1
row_in (drive ∷ rest) block = cond (same_drive drive block) 1 (suc (row_in rest block))

abbrev pub rows : List (List ℕ) → List ℕ
rows run = map (row_in (drives run)) run

-- 1: bytes that are no whole number of blocks, more than 64 blocks, or fewer entries of room than blocks. 18: some block is damaged.
abbrev pub checks : List ℕ → ℕ → List Check
checks bytes room =
    (1 when not (eqb (length bytes % 512) 0))
    ∷ (1 when ltb 32768 (length bytes))
    ∷ (1 when ltb room (length bytes / 512))
    ∷ (18 when any_damaged (blocks bytes))
    ∷ []

unfoldable pub refusal_of : List ℕ → ℕ → ℕ
refusal_of bytes room = first (checks bytes room)

-- Everything that comes back, and every lent entry that can change.
pub record Outcome : Type 0 where
  pub counted : Counted
  pub room : List ℕ

abbrev pub outcome : Counted → List ℕ → Outcome
outcome counted room = record { counted = counted; room = room }

-- Each block's row in its entry, later entries as they were; how many blocks, and how many different drives. A refusal changes no
-- entry and counts nothing.
unfoldable pub roll : List ℕ → List ℕ → Outcome
roll bytes room =
    cond (eqb (refusal_of bytes (length room)) 0)
    (outcome (record { number = 0; blocks = length bytes / 512; drives = length (drives (blocks bytes)) }) (written room 0 (rows (blocks bytes))))
    (outcome (record { number = refusal_of bytes (length room); blocks = 0; drives = 0 }) room)
