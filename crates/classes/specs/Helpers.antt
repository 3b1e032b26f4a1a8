-- No rules: a name for the contract of a function below the classes.
use Rattle.std.specs.Prelude.{◌≡◌, ℕ, suc, ◌≤◌, ◌<◌, ◌^◌}

-- The highest one bit of a word that is masked already stands at `place`; a word without one bits has `none` there.
pub record Highest (masked none place : ℕ) : Type 0 where
  pub of_zero : masked ≡ 0 → place ≡ none
  pub top : 0 < masked → (2 ^ place ≤ masked) × (masked < 2 ^ suc place)
