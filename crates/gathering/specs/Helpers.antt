-- No rules: names for contracts of functions below the entries.
use Rattle.std.specs.Prelude.{Bool, false, cond, ◌||◌, List, [], ◌∷◌, ℕ, ◌+◌, take, drop}
use Rattle.checksum.specs.Checksum.{damaged}
use Rattle.intake.specs.Intake.{complete, block_of}

-- How many intakes are complete.
unfoldable pub complete_in : List ℕ → ℕ
complete_in [] = 0
complete_in (have ∷ haves) = cond (complete have) 1 0 + complete_in haves

-- Some intake's block is damaged, asked of one intake after the other.
unfoldable pub damaged_in : List ℕ → List ℕ → Bool
damaged_in [] stores = false
damaged_in (have ∷ haves) stores = damaged (block_of have (take 512 stores)) || damaged_in haves (drop 512 stores)
