-- The command that an order is built as (RULES 16.3).
use Rattle.std.specs.Prelude.{cond, List, [], ◌∷◌, ◌++◌, ℕ, ◌+◌, ◌*◌, ◌/◌, ◌%◌, eqb, replicate}
use Rattle.passthrough_order.specs.declared.Order.{Order}
use Rattle.builder.specs.declared.Built.{Built}
use Rattle.buildable.specs.Fields.{off_line_for, multiple_count_for, t_dir_for, length_bits}
use Rattle.buildable.specs.Buildable.{buildable}

-- Byte 1: MULTIPLE_COUNT in bits 7:5, PROTOCOL in 4:1, EXTEND in bit 0.
abbrev pub first_flags : Order → ℕ
first_flags o = 0x20 * multiple_count_for o.sectors_per_block + 2 * o.protocol + o.extend

-- Byte 2: OFF_LINE in bits 7:6, CK_COND in 5, T_DIR in 3, BYTE_BLOCK in 2, T_LENGTH in 1:0. Bit 4 is zero.
abbrev pub second_flags : Order → ℕ
second_flags o =
    0x40 * off_line_for o.quiet_seconds + 0x20 * o.ck_cond + 8 * t_dir_for o.direction
    + length_bits o.length o.count o.features

abbrev pub upper : ℕ → ℕ
upper register = register / 0x100

abbrev pub lower : ℕ → ℕ
lower register = register % 0x100

-- The 12-byte form has the lower byte of each register; bytes 10 and 11, the control byte, are zero.
abbrev pub short : Order → List ℕ
short o =
    0xA1 ∷ first_flags o ∷ second_flags o
    ∷ lower o.features ∷ lower o.count ∷ lower o.lba_low ∷ lower o.lba_mid ∷ lower o.lba_high
    ∷ o.device ∷ o.command ∷ 0x00 ∷ 0x00 ∷ []

-- The 16-byte form has both bytes of each, the upper first; byte 15, the control byte, is zero.
abbrev pub long : Order → List ℕ
long o =
    0x85 ∷ first_flags o ∷ second_flags o
    ∷ upper o.features ∷ lower o.features
    ∷ upper o.count ∷ lower o.count
    ∷ upper o.lba_low ∷ lower o.lba_low
    ∷ upper o.lba_mid ∷ lower o.lba_mid
    ∷ upper o.lba_high ∷ lower o.lba_high
    ∷ o.device ∷ o.command ∷ 0x00 ∷ []

abbrev pub built : ℕ → ℕ → List ℕ → Built
built number size command = record { number = number; size = size; command = command }

-- The short form whenever EXTEND is zero, with zeros behind it; else the long one. 23 where no command makes the order.
unfoldable pub build : Order → Built
build o =
    cond (buildable o)
    (cond (eqb o.extend 0) (built 0 12 (short o ++ replicate 4 0x00)) (built 0 16 (long o)))
    (built 23 0 (replicate 16 0x00))
