-- The fixed form of sense data (RULES 10).
use Rattle.std.specs.Prelude.{Bool, ◌&&◌, ◌||◌, not, List, [], ◌∷◌, ℕ, ◌+◌, ◌*◌, eqb, get_or}
use Rattle.rules.specs.Bits.{flag}
use Rattle.sense_fixed.specs.Told.{Told, nothing, registers}

-- A register byte that is not zero, where EXTEND shows it.
abbrev pub nonzero : Bool → ℕ → Bool
nonzero extend byte = extend && not (eqb byte 0x00)

-- Of the upper bytes the fixed form tells in one byte: bit 7 EXTEND, bit 6 that of the count is not zero, bit 5 one of the LBA is not.
abbrev pub upper_bits : Bool → List ℕ → ℕ
upper_bits extend lent =
    0x80 * flag extend
    + 0x40 * flag (nonzero extend (get_or lent 1 0))
    + 0x20 * flag (nonzero extend (get_or lent 3 0) || nonzero extend (get_or lent 5 0) || nonzero extend (get_or lent 7 0))

-- Fixed form, 18 bytes: 70h, key in byte 2, in byte 7 the length of what follows, ASC and ASCQ in 12 and 13. The registers stand
-- in 3 to 6, error, status, device and count, and in 8 to 11, the upper bytes' bits and LBA low, mid and high, lower bytes alone.
unfoldable pub fixed_sense : ℕ → ℕ → ℕ → Told → List ℕ
fixed_sense key asc ascq nothing =
    0x70 ∷ 0x00 ∷ key ∷ 0x00 ∷ 0x00 ∷ 0x00 ∷ 0x00 ∷ 0x0A
    ∷ 0x00 ∷ 0x00 ∷ 0x00 ∷ 0x00 ∷ asc ∷ ascq ∷ 0x00 ∷ 0x00 ∷ 0x00 ∷ 0x00 ∷ []
fixed_sense key asc ascq (registers extend lent) =
    0x70 ∷ 0x00 ∷ key ∷ get_or lent 0 0 ∷ get_or lent 10 0 ∷ get_or lent 9 0 ∷ get_or lent 2 0 ∷ 0x0A
    ∷ upper_bits extend lent ∷ get_or lent 4 0 ∷ get_or lent 6 0 ∷ get_or lent 8 0 ∷ asc ∷ ascq ∷ 0x00 ∷ 0x00 ∷ 0x00 ∷ 0x00 ∷ []
