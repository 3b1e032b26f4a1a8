-- No rules: names for contracts of functions below the entry.
use Rattle.std.specs.Prelude.{◌≡◌, true, false, cond, List, ℕ, ◌+◌, ◌≤◌, ◌<◌, ltb, length, get_or}
use Rattle.room.specs.Room.{written}
use Rattle.drive.specs.Drive.{same_drive}
use Rattle.roll.specs.declared.Row.{Row}
use Rattle.roll.specs.Roll.{blocks_in, block_at, drives, rows}

-- Block r is the first of the same drive as block i.
pub record Found (bytes : List ℕ) (i r : ℕ) : Type 0 where
  pub within : r ≤ i
  pub same : r < i → same_drive (block_at bytes r) (block_at bytes i) ≡ true
  pub other : (k : ℕ) → k < r → same_drive (block_at bytes k) (block_at bytes i) ≡ false

-- The row of block i, whose drive's first block is j, and the count with it.
abbrev pub next_row : List ℕ → ℕ → ℕ → ℕ → Row
next_row room j i count =
    cond (ltb j i) (record { row = get_or room j 0; drives = count }) (record { row = count + 1; drives = count + 1 })

-- The rows of the first i blocks, and how many drives they are.
pub record Rolled (bytes : List ℕ) (i : ℕ) (before after : List ℕ) (count : ℕ) : Type 0 where
  pub room : after ≡ written before 0 (rows (blocks_in i bytes))
  pub drives : count ≡ length (drives (blocks_in i bytes))
