-- The words of a line (RULES 16.5). A line and a word are lists of their bytes.
use Rattle.std.specs.Prelude.{Bool, not, ◌||◌, List, ℕ, Option, eqb, length, filter, position}
use Rattle.std.specs.List.{slice_split}
use Rattle.std.specs.Str.{bytes_eq}

-- A space or a tab.
abbrev pub is_space : ℕ → Bool
is_space byte = eqb byte 0x20 || eqb byte 0x09

-- The parts that spaces divide a line into, one more than there are spaces.
abbrev pub parts : List ℕ → List (List ℕ)
parts line = slice_split is_space line

-- There is a byte.
abbrev pub some_byte : List ℕ → Bool
some_byte bytes = not (eqb (length bytes) 0)

-- The words of a line: those of its parts that are not empty.
abbrev pub words : List ℕ → List (List ℕ)
words line = filter some_byte (parts line)

-- The place of a word in a list, the first being 0.
abbrev pub place_of : List ℕ → List (List ℕ) → Option ℕ
place_of word list = position (bytes_eq word) list
