-- What is printed of a block: its texts as they are shown, and its drive's row in the roll of the blocks that are used.
use Rattle.std.specs.Prelude.{Bool, not, cond, List, [], ◌∷◌, ◌++◌, ℕ, Option, None, Some, length, get_or, take, replicate}
use Rattle.std.specs.List.{filter, flat_map}
use Rattle.texts.specs.Text.{turned, spaced}
use Rattle.checksum.specs.Checksum.{damaged}
use Rattle.roll.specs.Roll.{roll}
use Rattle.output.specs.Shown.{shown}

-- A space, and a text of a drive in brackets, turned and spaced, each byte as it is shown.
abbrev pub shown_field : List ℕ → List ℕ
shown_field text = 0x20 ∷ 0x5B ∷ flat_map shown (spaced (turned text)) ++ 0x5D ∷ []

-- A block that is not damaged is used.
abbrev pub is_used : List ℕ → Bool
is_used block = not (damaged block)

-- The blocks that are used, in their order.
abbrev pub used : List (List ℕ) → List (List ℕ)
used blocks = filter is_used blocks

-- What the roll of the blocks that are used leaves in its 64 entries: a row for each of these, from the front.
abbrev pub rows_given : List (List ℕ) → List ℕ
rows_given blocks = (roll (flat_map (λ block. block) (used blocks)) (replicate 64 0)).room

-- The row of block i: none where it is damaged; else, of the rows that were given, the one behind those of the used blocks before it.
abbrev pub row_beside : List ℕ → List (List ℕ) → ℕ → Option ℕ
row_beside given blocks i =
    cond (is_used (get_or blocks i [])) (Some (get_or given (length (used (take i blocks))) 0)) None
