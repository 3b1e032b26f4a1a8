-- Laws of tests, and of checks in order.
use mathlib.Core.Path.{◌≡◌, refl, sym, ◌∙◌}
use mathlib.Core.Bool.{Bool, true, false, cond, ◌&&◌, ◌||◌, not, and-eq-true_iff, true≢false}
use mathlib.Core.List.{List, [], ◌∷◌, ◌++◌}
use Prim.Native.Nat.{ℕ}
use lib.Dec.{eqb}
use borrow.Author.Tests.{eq-eqb, ne_eqb, not-true}
use Rattle.rules.specs.First.{Check, first}

-- No check of a list applies.
abbrev pub Silent : List Check → Type 0
Silent [] = Unit {0}
Silent (check ∷ checks) = (check.applies ≡ false) × Silent checks

-- Every check of a list has a number other than 0.
abbrev pub numbered : List Check → Bool
numbered [] = true
numbered (check ∷ checks) = not (eqb check.number 0) && numbered checks

-- So where the first that applies gives none, none applies.
pub silent : (checks : List Check) → numbered checks ≡ true → first checks ≡ 0 → Silent checks
silent [] n e = tt
silent (check ∷ checks) n e =
    let both = (and-eq-true_iff (not (eqb check.number 0)) (numbered checks)).0 n in
    let parts = step check.applies check.number (first checks) both.0 e in
    (parts.0, silent checks both.1 parts.1)
  where
    step : (b : Bool) (k rest : ℕ) → not (eqb k 0) ≡ true → cond b k rest ≡ 0 → (b ≡ false) × (rest ≡ 0)
    step true k rest n e = absurd (true≢false (sym n ∙ rw (eq-eqb k 0 e)))
    step false k rest n e = (refl, e)

-- Neither of two tests applies.
pub neither : (a b : Bool) → (a || b) ≡ false → (a ≡ false) × (b ≡ false)
neither true b e = absurd (true≢false e)
neither false b e = (refl, e)

-- Checks in two runs: where the first run gives none, the second answers.
first_of_two : (a b : List Check) → numbered a ≡ true → first (a ++ b) ≡ cond (eqb (first a) 0) (first b) (first a)
first_of_two [] b n = refl
first_of_two (check ∷ a) b n =
    let both = (and-eq-true_iff (not (eqb check.number 0)) (numbered a)).0 n in
    step check.applies check.number both.0 (first_of_two a b both.1)
  where
    step : (t : Bool) (k : ℕ) → not (eqb k 0) ≡ true → first (a ++ b) ≡ cond (eqb (first a) 0) (first b) (first a) → cond t k (first (a ++ b)) ≡ cond (eqb (cond t k (first a)) 0) (first b) (cond t k (first a))
    step true k h r = rw (not-true (eqb k 0) h)
    step false k h r = r

module _ (a b : List Check) (n : numbered a ≡ true) where
  pub first_answers : (first a ≡ 0 → ⊥) → first (a ++ b) ≡ first a
  first_answers h = rw (first_of_two a b n, ne_eqb (first a) 0 h)

  pub second_answers : first a ≡ 0 → first (a ++ b) ≡ first b
  second_answers h = rw (first_of_two a b n, eq-eqb (first a) 0 h)
