-- No rules: names for contracts of functions below the entries.
use Rattle.std.specs.Prelude.{Bool, cond, ℕ}

-- Where the drive's descriptor ends, by whether it is a name.
abbrev pub drive_end : Bool → ℕ
drive_end named = cond named 16 76
