-- No rules: names for contracts of functions below the entries.
use Rattle.std.specs.Prelude.{◌≡◌, ℕ, ◌≤◌}
use Rattle.refusals.specs.Refusal.{row_of}

-- A refusal that writes has its sense room: a shorter one is refusal 1, which writes nothing.
abbrev pub Roomy : ℕ → ℕ → Type 0
Roomy number sense = ((row_of number).key ≡ 0x00 → ⊥) → 22 ≤ sense
