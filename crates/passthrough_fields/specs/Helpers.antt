-- No rules: names for contracts of functions below the entry.
use Rattle.std.specs.Prelude.{◌≡◌, true, List, ℕ, ◌≤◌, length}
use Rattle.passthrough_fields.specs.declared.sent.Sent.{Sent}
use Rattle.passthrough_fields.specs.Fields.{long, longest, extend, auxiliary, register, device, ata_command}

-- What a command sends to the drive's registers, and whether it sends their upper bytes.
abbrev pub sent_of : List ℕ → Sent
sent_of c =
    record {
      extend = extend c;
      auxiliary = auxiliary c;
      features = register 0 c;
      count = register 1 c;
      lba_low = register 2 c;
      lba_mid = register 3 c;
      lba_high = register 4 c;
      device = device c;
      command = ata_command c;
    }

-- The command has all bytes of its form.
pub record Whole (command : List ℕ) : Type 0 where
  pub short : 12 ≤ length command
  pub sixteen : long command ≡ true → 16 ≤ length command
  pub thirty_two : longest command ≡ true → 32 ≤ length command
