-- Checks in order, and the number of the first that applies (RULES 3).
use Rattle.std.specs.Prelude.{Bool, cond, List, [], ◌∷◌, ℕ}

-- A row of the table of refusals: where it applies, this is its number.
pub record Check : Type 0 where
  pub applies : Bool
  pub number : ℕ

-- `4 when naca command` is the row of number 4, given exactly when NACA is one.
infixl 20 ◌when◌
abbrev pub ◌when◌ : ℕ → Bool → Check
number when applies = record { applies = applies; number = number }

-- The number of the first that applies, and 0 where none does.
abbrev pub first : List Check → ℕ
first [] = 0
first (check ∷ checks) = cond check.applies check.number (first checks)
