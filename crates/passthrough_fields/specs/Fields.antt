-- The fields of ATA PASS-THROUGH (12), (16) and (32), by the opcode alone (RULES 8.1).
use Rattle.std.specs.Prelude.{Bool, cond, ◌&&◌, ◌||◌, List, [], ◌∷◌, ℕ, ◌+◌, ◌*◌, eqb, get_or}
use Rattle.rules.specs.Bits.{bit, bits}

-- Opcode 85h is the long form, of 16 bytes, and 7Fh the longest, of 32; the short one has 12.
abbrev pub long : List ℕ → Bool
long command = eqb (get_or command 0 0) 0x85

abbrev pub longest : List ℕ → Bool
longest command = eqb (get_or command 0 0) 0x7F

abbrev pub size : List ℕ → ℕ
size command = cond (longest command) 32 (cond (long command) 16 12)

-- A byte that stands at a place of its own in each form.
abbrev pub placed : ℕ → ℕ → ℕ → List ℕ → ℕ
placed inShort inLong inLongest command =
    cond (longest command) (get_or command inLongest 0) (cond (long command) (get_or command inLong 0) (get_or command inShort 0))

-- The longest form is one of several commands with its opcode: byte 7 has 18h, and bytes 8 and 9 have 1FF0h, its own number.
abbrev pub service_action : List ℕ → Bool
service_action command = eqb (get_or command 7 0) 0x18 && eqb (get_or command 8 0) 0x1F && eqb (get_or command 9 0) 0xF0

-- The first byte of flags, 1 or in the longest form 10: MULTIPLE_COUNT in bits 7:5, PROTOCOL in 4:1, and but for the short form EXTEND
-- in bit 0.
abbrev pub first_flags : List ℕ → ℕ
first_flags command = cond (longest command) (get_or command 10 0) (get_or command 1 0)

abbrev pub multiple_count : List ℕ → ℕ
multiple_count command = bits 7 5 (first_flags command)

abbrev pub protocol : List ℕ → ℕ
protocol command = bits 4 1 (first_flags command)

abbrev pub extend : List ℕ → Bool
extend command = (longest command || long command) && bit 0 (first_flags command)

-- The second, 2 or in the longest form 11: OFF_LINE in bits 7:6, CK_COND in 5, T_TYPE in 4, T_DIR in 3, BYTE_BLOCK in 2, T_LENGTH in 1:0.
abbrev pub second_flags : List ℕ → ℕ
second_flags command = cond (longest command) (get_or command 11 0) (get_or command 2 0)

abbrev pub off_line : List ℕ → ℕ
off_line command = bits 7 6 (second_flags command)

abbrev pub ck_cond : List ℕ → Bool
ck_cond command = bit 5 (second_flags command)

abbrev pub t_type : List ℕ → Bool
t_type command = bit 4 (second_flags command)

abbrev pub t_dir : List ℕ → Bool
t_dir command = bit 3 (second_flags command)

abbrev pub byte_block : List ℕ → Bool
byte_block command = bit 2 (second_flags command)

abbrev pub t_length : List ℕ → ℕ
t_length command = bits 1 0 (second_flags command)

-- NACA: bit 2 of the control byte, the last of the command, and in the longest form byte 1.
abbrev pub naca : List ℕ → Bool
naca command = bit 2 (placed 11 15 1 command)

-- Register i, of features, count, LBA low, mid and high, stands in the short form in byte 3 + i, and in the long one in bytes
-- 3 + 2i (upper) and 4 + 2i. In the longest the LBA is in bytes 14 to 19, high byte first, features in 20 and 21, the count in 22 and 23.
-- Without EXTEND the upper byte counts as zero.
abbrev pub upper_at : ℕ → ℕ
upper_at i = get_or (20 ∷ 22 ∷ 16 ∷ 15 ∷ 14 ∷ []) i 0

abbrev pub lower_at : ℕ → ℕ
lower_at i = get_or (21 ∷ 23 ∷ 19 ∷ 18 ∷ 17 ∷ []) i 0

abbrev pub register : ℕ → List ℕ → ℕ
register i command =
    0x100 * cond (extend command) (placed 0 (3 + 2 * i) (upper_at i) command) 0
    + placed (3 + i) (4 + 2 * i) (lower_at i) command

abbrev pub features_number : List ℕ → ℕ
features_number command = register 0 command

abbrev pub count_number : List ℕ → ℕ
count_number command = register 1 command

-- Device and command: bytes 8 and 9 of the short form, 13 and 14 of the long, 24 and 25 of the longest.
abbrev pub device : List ℕ → ℕ
device command = placed 8 13 24 command

abbrev pub ata_command : List ℕ → ℕ
ata_command command = placed 9 14 25 command

-- The auxiliary number: bytes 28 to 31 of the longest form, high byte first, whatever EXTEND is. The others have none, which is zero.
abbrev pub auxiliary : List ℕ → ℕ
auxiliary command =
    cond (longest command)
    (0x1000000 * get_or command 28 0 + 0x10000 * get_or command 29 0 + 0x100 * get_or command 30 0 + get_or command 31 0)
    0
