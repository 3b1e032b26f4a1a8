-- What counts of a pass-through command, as the first edition reads it (RULES 16.4). All else is ignored: bit 4 of byte 2; in the
-- 12-byte form bit 0 of byte 1, and byte 10; in the 16-byte form with EXTEND zero the upper byte of each register; of the control byte all
-- but NACA, which has to be zero; of a protocol without data T_DIR and BYTE_BLOCK; BYTE_BLOCK where T_LENGTH is 3; of a reset all but
-- PROTOCOL and OFF_LINE; and bytes behind the command's own. T_LENGTH and BYTE_BLOCK count for the length alone that they point at.
use Rattle.std.specs.Prelude.{Bool, false, cond, ◌&&◌, List, ℕ}
use Rattle.passthrough_fields.specs.Fields as Fields
use Rattle.passthrough_length.specs.Length.{length_of}
use Rattle.passthrough_order.specs.Order.{with_data, reset}

pub record Counts : Type 0 where
  pub protocol : ℕ
  pub off_line_is : ℕ
  pub multiple_count_is : ℕ
  pub extend : Bool
  pub ck_cond_is : Bool
  pub t_dir_is : Bool
  pub features : ℕ
  pub count : ℕ
  pub lba_low_is : ℕ
  pub lba_mid_is : ℕ
  pub lba_high_is : ℕ
  pub device : ℕ
  pub command : ℕ

-- Of a reset PROTOCOL and OFF_LINE.
abbrev pub of_reset : List ℕ → Counts
of_reset c =
    record {
      protocol = Fields.protocol c;
      off_line_is = Fields.off_line c;
      multiple_count_is = 0;
      extend = false;
      ck_cond_is = false;
      t_dir_is = false;
      features = 0;
      count = 0;
      lba_low_is = 0;
      lba_mid_is = 0;
      lba_high_is = 0;
      device = 0;
      command = 0;
    }

-- Of any other command every field, T_DIR with data alone.
abbrev pub of_command : List ℕ → Counts
of_command c =
    record {
      protocol = Fields.protocol c;
      off_line_is = Fields.off_line c;
      multiple_count_is = Fields.multiple_count c;
      extend = Fields.extend c;
      ck_cond_is = Fields.ck_cond c;
      t_dir_is = with_data (Fields.protocol c) && Fields.t_dir c;
      features = Fields.register 0 c;
      count = Fields.register 1 c;
      lba_low_is = Fields.register 2 c;
      lba_mid_is = Fields.register 3 c;
      lba_high_is = Fields.register 4 c;
      device = Fields.device c;
      command = Fields.ata_command c;
    }

unfoldable pub counts_of : List ℕ → Counts
counts_of c = cond (reset (Fields.protocol c)) (of_reset c) (of_command c)

-- The byte length that T_LENGTH and BYTE_BLOCK point at; a reset has none.
unfoldable pub points_at : List ℕ → ℕ → ℕ
points_at c declared = cond (reset (Fields.protocol c)) 0 (length_of 512 c declared)
