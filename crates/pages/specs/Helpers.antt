-- No rules: names for contracts of functions below the entries.
use Rattle.std.specs.Prelude.{◌≡◌, List, length, ℕ}

-- A block of 512 bytes, or of none.
abbrev pub WholeOrNone : List ℕ → Type 0
WholeOrNone block = (length block ≡ 0 → ⊥) → length block ≡ 512
