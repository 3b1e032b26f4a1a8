-- What is read of a pass-through command, whatever its form, in an edition (RULES 8.1 to 8.4). All that has no field here is ignored: bits
-- and bytes without a name, and bytes behind the command's own; of the control byte all but NACA; in the 12-byte form bit 0 of byte 1; with
-- EXTEND zero the upper byte of each register; of protocol 15 all but NACA; of a reset all but NACA and OFF_LINE; without data T_DIR and
-- BYTE_BLOCK; BYTE_BLOCK where T_LENGTH points at no register; and T_TYPE but for a block count in the later edition.
use Rattle.std.specs.Prelude.{Bool, false, cond, not, ◌&&◌, ◌||◌, List, [], ◌∷◌, ℕ, eqb, ltb, length}
use Rattle.passthrough_fields.specs.Fields as Fields
use Rattle.passthrough_order.specs.Order.{with_data, reset}
use Rattle.passthrough_checks.specs.Checks.{wrong_opcode, wrong_action}

-- The flags and registers that a protocol has read.
pub record Flags : Type 0 where
  pub off_line_is : ℕ
  pub multiple_count_is : ℕ
  pub extend : Bool
  pub ck_cond_is : Bool
  pub t_type_is : Bool
  pub t_dir_is : Bool
  pub byte_block_is : Bool
  pub t_length_is : ℕ
  pub features : ℕ
  pub count : ℕ
  pub lba_low_is : ℕ
  pub lba_mid_is : ℕ
  pub lba_high_is : ℕ
  pub device : ℕ
  pub command : ℕ
  pub auxiliary : ℕ

-- Of a reset OFF_LINE, and of protocol 15 nothing.
abbrev pub quiet : ℕ → Flags
quiet off_line =
    record {
      off_line_is = off_line;
      multiple_count_is = 0;
      extend = false;
      ck_cond_is = false;
      t_type_is = false;
      t_dir_is = false;
      byte_block_is = false;
      t_length_is = 0;
      features = 0;
      count = 0;
      lba_low_is = 0;
      lba_mid_is = 0;
      lba_high_is = 0;
      device = 0;
      command = 0;
      auxiliary = 0;
    }

-- T_LENGTH points at a register, features or count, of a protocol with data: there BYTE_BLOCK is read.
abbrev pub counted : List ℕ → Bool
counted c = with_data (Fields.protocol c) && (eqb (Fields.t_length c) 1 || eqb (Fields.t_length c) 2)

-- Of any other command every field, T_DIR with data alone. A register has its upper byte with EXTEND alone.
abbrev pub of_command : Bool → List ℕ → Flags
of_command later c =
    record {
      off_line_is = Fields.off_line c;
      multiple_count_is = Fields.multiple_count c;
      extend = Fields.extend c;
      ck_cond_is = Fields.ck_cond c;
      t_type_is = later && counted c && Fields.byte_block c && Fields.t_type c;
      t_dir_is = with_data (Fields.protocol c) && Fields.t_dir c;
      byte_block_is = counted c && Fields.byte_block c;
      t_length_is = Fields.t_length c;
      features = Fields.register 0 c;
      count = Fields.register 1 c;
      lba_low_is = Fields.register 2 c;
      lba_mid_is = Fields.register 3 c;
      lba_high_is = Fields.register 4 c;
      device = Fields.device c;
      command = Fields.ata_command c;
      auxiliary = Fields.auxiliary c;
    }

abbrev pub flags_of : Bool → List ℕ → Flags
flags_of later c =
    cond (eqb (Fields.protocol c) 15) (quiet 0) (cond (reset (Fields.protocol c)) (quiet (Fields.off_line c)) (of_command later c))

-- What the checks read of every command: whether it has a byte, has an opcode that the edition serves, and has all bytes of its form; NACA;
-- whether bytes 7 to 9 of the 32-byte form are its own; PROTOCOL. And the flags.
pub record Read : Type 0 where
  pub empty : Bool
  pub served : Bool
  pub whole : Bool
  pub naca : Bool
  pub own_action : Bool
  pub protocol : ℕ
  pub flags : Flags

unfoldable pub read_of : Bool → List ℕ → Read
read_of later c =
    record {
      empty = eqb (length c) 0;
      served = not (wrong_opcode later c);
      whole = not (ltb (length c) (Fields.size c));
      naca = Fields.naca c;
      own_action = not (wrong_action c);
      protocol = Fields.protocol c;
      flags = flags_of later c;
    }

-- The places of the bytes that are read, in the form of 32 bytes, of 16 and of 12: opcode, flags and control byte, and in the longest bytes
-- 7 to 9; but of resets and protocol 15 also device, command, auxiliary number and the registers' lower bytes, and with EXTEND their upper.
abbrev pub places32 : Bool → Bool → List ℕ
places32 registers extend =
    0 ∷ 1 ∷ 7 ∷ 8 ∷ 9 ∷ 10 ∷ 11
    ∷ cond registers (17 ∷ 18 ∷ 19 ∷ 21 ∷ 23 ∷ 24 ∷ 25 ∷ 28 ∷ 29 ∷ 30 ∷ 31 ∷ cond extend (14 ∷ 15 ∷ 16 ∷ 20 ∷ 22 ∷ []) []) []

abbrev pub places16 : Bool → Bool → List ℕ
places16 registers extend =
    0 ∷ 1 ∷ 2 ∷ 15 ∷ cond registers (4 ∷ 6 ∷ 8 ∷ 10 ∷ 12 ∷ 13 ∷ 14 ∷ cond extend (3 ∷ 5 ∷ 7 ∷ 9 ∷ 11 ∷ []) []) []

abbrev pub places12 : Bool → List ℕ
places12 registers = 0 ∷ 1 ∷ 2 ∷ 11 ∷ cond registers (3 ∷ 4 ∷ 5 ∷ 6 ∷ 7 ∷ 8 ∷ 9 ∷ []) []

abbrev pub has_registers : List ℕ → Bool
has_registers c = not (eqb (Fields.protocol c) 15 || reset (Fields.protocol c))

abbrev pub places_read : List ℕ → List ℕ
places_read c =
    cond (Fields.longest c) (places32 (has_registers c) (Fields.extend c))
    (cond (Fields.long c) (places16 (has_registers c) (Fields.extend c)) (places12 (has_registers c)))
