-- How the programs show a byte of a text, so that a line stays a line and no byte gives a command to a terminal.
use Rattle.std.specs.Prelude.{Bool, false, cond, ◌&&◌, List, [], ◌∷◌, ℕ, ◌/◌, ◌%◌, eqb, leb}
use Rattle.std.specs.Fmt.{digit_glyph}

-- A byte in two hexadecimal digits.
abbrev pub two_digits : ℕ → List ℕ
two_digits byte = digit_glyph false (byte / 0x10) ∷ digit_glyph false (byte % 0x10) ∷ []

-- From the space to the tilde.
abbrev pub printable : ℕ → Bool
printable byte = leb 0x20 byte && leb byte 0x7E

-- A backslash is shown as two; a printable byte as it is; any other as a backslash, an x and its two hexadecimal digits.
unfoldable pub shown : ℕ → List ℕ
shown byte =
    cond (eqb byte 0x5C) (0x5C ∷ 0x5C ∷ [])
    (cond (printable byte) (byte ∷ [])
    (0x5C ∷ 0x78 ∷ two_digits byte))
