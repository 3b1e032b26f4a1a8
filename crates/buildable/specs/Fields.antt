-- Fields of a command, from what they say in an order (RULES 16.1).
use Rattle.std.specs.Prelude.{cond, List, [], ◌∷◌, ℕ, suc, ◌*◌, eqb}
use Rattle.rules.specs.Bits.{flag}

-- The place of a number in a list, the first being 0; where it is not there, the list's length.
abbrev pub place : List ℕ → ℕ → ℕ
place [] n = 0
place (m ∷ ms) n = cond (eqb n m) 0 (suc (place ms n))

-- The quiet seconds of OFF_LINE 0 to 3, and OFF_LINE for quiet seconds; 4 stands for none.
abbrev pub quiet_times : List ℕ
quiet_times = 0 ∷ 2 ∷ 6 ∷ 14 ∷ []

abbrev pub off_line_for : ℕ → ℕ
off_line_for quiet_seconds = place quiet_times quiet_seconds

-- The sectors per block of MULTIPLE_COUNT 0 to 7, and MULTIPLE_COUNT for sectors; 8 stands for none.
abbrev pub sector_counts : List ℕ
sector_counts = 1 ∷ 2 ∷ 4 ∷ 8 ∷ 16 ∷ 32 ∷ 64 ∷ 128 ∷ []

abbrev pub multiple_count_for : ℕ → ℕ
multiple_count_for sectors = place sector_counts sectors

-- T_DIR: one for data from the drive, and zero for data to it and without data.
abbrev pub t_dir_for : ℕ → ℕ
t_dir_for direction = flag (eqb direction 1)

-- BYTE_BLOCK in bit 2, and T_LENGTH in bits 1:0. Without data both are zero; else they name the first that has the length, of the count
-- in blocks, the count in bytes, the features in blocks, the features in bytes, and the declared length.
abbrev pub length_bits : ℕ → ℕ → ℕ → ℕ
length_bits length count features =
    cond (eqb length 0) 0
    (cond (eqb length (512 * count)) 6
    (cond (eqb length count) 2
    (cond (eqb length (512 * features)) 5
    (cond (eqb length features) 1
    3))))
