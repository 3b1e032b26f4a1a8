-- No rules: names for contracts of functions below the entries.
use Rattle.std.specs.Prelude.{ℕ, ◌-◌, min}

-- How many of n bytes fit into a room of this length from the place `at` on.
abbrev pub fitting : ℕ → ℕ → ℕ → ℕ
fitting room at n = min n (room - at)
