-- The first edition: a pass-through command as it is read and answered where no later edition is named, in words of its own, so that
-- `FirstEditionStays` can say that nothing of it moved. ATA PASS-THROUGH (12) and (16), no block, and no auxiliary number.
use Rattle.std.specs.Prelude.{Bool, cond, ◌&&◌, ◌||◌, not, List, [], ◌∷◌, ℕ, ◌+◌, ◌*◌, ◌^◌, eqb, ltb, length, get_or}
use Rattle.rules.specs.Bits.{bit, bits, flag}
use Rattle.rules.specs.First.{Check, ◌when◌, first}
use Rattle.passthrough_length.specs.Length.{bytes_in}
use Rattle.passthrough_order.specs.declared.Order.{Order}
use Rattle.passthrough_order.specs.Order.{reset, quiet_seconds, direction_of}
use Rattle.passthrough_checks.specs.Checks.{wrong_size, wrong_protocol, waits, wrong_length, wrong_direction, no_length, too_long}
use Rattle.passthrough.specs.declared.Pending.{Pending}
use Rattle.passthrough.specs.Record.{nothing_pending, reset_pending}
use Rattle.passthrough.specs.Submit.{Outcome, refused, reported, taken}

-- Opcode 85h is the long form, of 16 bytes; the short one has 12.
abbrev pub long : List ℕ → Bool
long command = eqb (get_or command 0 0) 0x85

abbrev pub size : List ℕ → ℕ
size command = cond (long command) 16 12

-- Byte 1: MULTIPLE_COUNT in bits 7:5, PROTOCOL in 4:1, and in the long form EXTEND in bit 0.
abbrev pub multiple_count : List ℕ → ℕ
multiple_count command = bits 7 5 (get_or command 1 0)

abbrev pub protocol : List ℕ → ℕ
protocol command = bits 4 1 (get_or command 1 0)

abbrev pub extend : List ℕ → Bool
extend command = long command && bit 0 (get_or command 1 0)

-- Byte 2: OFF_LINE in bits 7:6, CK_COND in 5, T_DIR in 3, BYTE_BLOCK in 2, T_LENGTH in 1:0.
abbrev pub off_line : List ℕ → ℕ
off_line command = bits 7 6 (get_or command 2 0)

abbrev pub ck_cond : List ℕ → Bool
ck_cond command = bit 5 (get_or command 2 0)

abbrev pub t_dir : List ℕ → Bool
t_dir command = bit 3 (get_or command 2 0)

abbrev pub byte_block : List ℕ → Bool
byte_block command = bit 2 (get_or command 2 0)

abbrev pub t_length : List ℕ → ℕ
t_length command = bits 1 0 (get_or command 2 0)

-- NACA: bit 2 of the control byte, the last of the command.
abbrev pub naca : List ℕ → Bool
naca command = bit 2 (get_or command (cond (long command) 15 11) 0)

-- Register i, of features, count, LBA low, mid and high, stands in the short form in byte 3 + i, and in the long one in bytes
-- 3 + 2i (upper) and 4 + 2i. Without EXTEND the upper byte counts as zero.
abbrev pub register : ℕ → List ℕ → ℕ
register i command =
    0x100 * cond (extend command) (get_or command (3 + 2 * i) 0) 0
    + cond (long command) (get_or command (4 + 2 * i) 0) (get_or command (3 + i) 0)

-- Device and command: bytes 13 and 14 of the long form, 8 and 9 of the short.
abbrev pub device : List ℕ → ℕ
device command = cond (long command) (get_or command 13 0) (get_or command 8 0)

abbrev pub ata_command : List ℕ → ℕ
ata_command command = cond (long command) (get_or command 14 0) (get_or command 9 0)

-- T_LENGTH 0 is no data, 1 the features number, 2 the count, 3 the length that the host declared. BYTE_BLOCK one counts blocks of 512
-- bytes, zero counts bytes.
unfoldable pub length_of : List ℕ → ℕ → ℕ
length_of command declared =
    cond (eqb (t_length command) 0) 0
    (cond (eqb (t_length command) 1) (bytes_in (byte_block command) 512 (register 0 command))
    (cond (eqb (t_length command) 2) (bytes_in (byte_block command) 512 (register 1 command))
    declared))

-- Of a reset only PROTOCOL and OFF_LINE are read, of any other command every field.
abbrev pub reset_order : List ℕ → Order
reset_order c =
    record {
      length = 0;
      auxiliary = 0;
      features = 0;
      count = 0;
      lba_low = 0;
      lba_mid = 0;
      lba_high = 0;
      quiet_seconds = quiet_seconds (off_line c);
      sectors_per_block = 1;
      device = 0;
      command = 0;
      protocol = protocol c;
      ck_cond = 0;
      extend = 0;
      direction = 0;
    }

abbrev pub command_order : List ℕ → ℕ → Order
command_order c declared =
    record {
      length = length_of c declared;
      auxiliary = 0;
      features = register 0 c;
      count = register 1 c;
      lba_low = register 2 c;
      lba_mid = register 3 c;
      lba_high = register 4 c;
      quiet_seconds = quiet_seconds (off_line c);
      sectors_per_block = 2 ^ multiple_count c;
      device = device c;
      command = ata_command c;
      protocol = protocol c;
      ck_cond = flag (ck_cond c);
      extend = flag (extend c);
      direction = direction_of (protocol c) (t_dir c);
    }

unfoldable pub order_of : List ℕ → ℕ → Order
order_of c declared = cond (reset (protocol c)) (reset_order c) (command_order c declared)

-- 3: neither A1h nor 85h.
abbrev pub wrong_opcode : List ℕ → Bool
wrong_opcode command = not (eqb (get_or command 0 0) 0xA1 || eqb (get_or command 0 0) 0x85)

-- The checks in their order, and the number of the first that applies.
abbrev pub checks_of : Bool → Bool → List ℕ → ℕ → ℕ → ℕ → List Check
checks_of pending isReset command registers declared sense =
    (1 when wrong_size registers sense)
    ∷ (2 when eqb (length command) 0)
    ∷ (3 when wrong_opcode command)
    ∷ (2 when ltb (length command) (size command))
    ∷ (4 when naca command)
    ∷ (9 when wrong_protocol (protocol command))
    ∷ (10 when waits pending isReset (protocol command))
    ∷ (11 when wrong_length (protocol command) (t_length command))
    ∷ (12 when wrong_direction (protocol command) (t_dir command))
    ∷ (13 when no_length (protocol command) (length_of command declared))
    ∷ (14 when too_long (protocol command) (length_of command declared) declared)
    ∷ []

abbrev pub refusal_of : Pending → List ℕ → List ℕ → ℕ → ℕ → ℕ
refusal_of pending command registers declared sense =
    first (checks_of (not (nothing_pending pending)) (reset_pending pending) command (length registers) declared sense)

-- A command that is submitted: refused, told (PROTOCOL 15), or taken into the record.
unfoldable pub submit : Pending → List ℕ → List ℕ → ℕ → ℕ → List ℕ → Outcome
submit pending command registers declared form sense =
    cond (eqb (refusal_of pending command registers declared (length sense)) 0)
    (cond (eqb (protocol command) 15) (reported pending registers form sense) (taken pending (order_of command declared) sense))
    (refused pending form (refusal_of pending command registers declared (length sense)) sense)
