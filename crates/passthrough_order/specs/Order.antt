-- Orders for the drive (RULES 8.3).
use Rattle.std.specs.Prelude.{Bool, cond, ◌||◌, List, ℕ, ◌+◌, ◌-◌, ◌^◌, eqb}
use Rattle.rules.specs.Bits.{flag}
use Rattle.passthrough_order.specs.declared.Order.{Order}
use Rattle.passthrough_fields.specs.Fields.{protocol, multiple_count, off_line, ck_cond, extend, t_dir, register, device, ata_command, auxiliary}

-- Protocols by number: without data, from the drive, to the drive, and either way.
abbrev pub without_data : ℕ → Bool
without_data p = eqb p 3 || eqb p 8 || eqb p 9

abbrev pub from_drive : ℕ → Bool
from_drive p = eqb p 4 || eqb p 10

abbrev pub to_drive : ℕ → Bool
to_drive p = eqb p 5 || eqb p 11

abbrev pub with_data : ℕ → Bool
with_data p = from_drive p || to_drive p || eqb p 6

-- Protocols 0 and 1 are resets.
abbrev pub reset : ℕ → Bool
reset p = eqb p 0 || eqb p 1

-- The direction comes from PROTOCOL and T_DIR alone: 0 none, 1 from the drive, 2 to it.
abbrev pub direction_of : ℕ → Bool → ℕ
direction_of p dir = cond (with_data p) (cond dir 1 2) 0

-- How long the line stays quiet: 0, 2, 6 or 14 seconds.
abbrev pub quiet_seconds : ℕ → ℕ
quiet_seconds off_line = 2 ^ (off_line + 1) - 2

-- Every field zero: what a refusal and protocol 15 answer in an order's place.
abbrev pub no_order : Order
no_order =
    record {
      length = 0;
      auxiliary = 0;
      features = 0;
      count = 0;
      lba_low = 0;
      lba_mid = 0;
      lba_high = 0;
      quiet_seconds = 0;
      sectors_per_block = 0;
      device = 0;
      command = 0;
      protocol = 0;
      ck_cond = 0;
      extend = 0;
      direction = 0;
    }

-- Of a reset only PROTOCOL and OFF_LINE are read; it has one sector a block, no direction, and zero elsewhere.
abbrev pub reset_order : List ℕ → Order
reset_order c =
    record {
      length = 0;
      auxiliary = 0;
      features = 0;
      count = 0;
      lba_low = 0;
      lba_mid = 0;
      lba_high = 0;
      quiet_seconds = quiet_seconds (off_line c);
      sectors_per_block = 1;
      device = 0;
      command = 0;
      protocol = protocol c;
      ck_cond = 0;
      extend = 0;
      direction = 0;
    }

-- Of any other command every field is read; the length of its data is counted before.
abbrev pub command_order : List ℕ → ℕ → Order
command_order c bytes =
    record {
      length = bytes;
      auxiliary = auxiliary c;
      features = register 0 c;
      count = register 1 c;
      lba_low = register 2 c;
      lba_mid = register 3 c;
      lba_high = register 4 c;
      quiet_seconds = quiet_seconds (off_line c);
      sectors_per_block = 2 ^ multiple_count c;
      device = device c;
      command = ata_command c;
      protocol = protocol c;
      ck_cond = flag (ck_cond c);
      extend = flag (extend c);
      direction = direction_of (protocol c) (t_dir c);
    }

unfoldable pub order_of : List ℕ → ℕ → Order
order_of c bytes = cond (reset (protocol c)) (reset_order c) (command_order c bytes)
