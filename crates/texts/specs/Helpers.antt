-- No rules: names for contracts of functions below the entries.
use Rattle.std.specs.Prelude.{Bool, true, false, ℕ}
use Rattle.texts.specs.Text.{space}

-- A byte as the code's flag has it: with zero as a space, or as it stands.
abbrev pub shown : Bool → ℕ → ℕ
shown true byte = space byte
shown false byte = byte
