-- Laws of runs of checks: what a whole run says from what its checks say.
use mathlib.Core.Path.{◌≡◌, refl, sym, ◌∙◌}
use mathlib.Core.Bool.{Bool, true, false, cond, ◌&&◌, and-eq-true_iff}
use mathlib.Core.List.{List, [], ◌∷◌, ◌++◌}
use Prim.Native.Nat.{ℕ}
use lib.Dec.{eqb}
use borrow.Author.Tests.{eqb-true, eqb-false}
use Rattle.rules.specs.First.{Check, first}
use Rattle.rules.proofs.First.{Silent, numbered, first_answers, second_answers}

-- Where no check applies, none answers.
pub none_answers : (checks : List Check) → Silent checks → first checks ≡ 0
none_answers [] h = refl
none_answers (check ∷ checks) h = rw h.0 (none_answers checks h.1)

-- Of two runs that give none neither gives one.
pub neither_answers : (a b : List Check) → numbered a ≡ true → first (a ++ b) ≡ 0 → (first a ≡ 0) × (first b ≡ 0)
neither_answers a b n e = by (eqb (first a) 0) refl
  where
    by : (t : Bool) → eqb (first a) 0 ≡ t → (first a ≡ 0) × (first b ≡ 0)
    by true t = let z = eqb-true (first a) 0 t in (z, sym (second_answers a b n z) ∙ e)
    by false t = let h = eqb-false (first a) 0 t in absurd (h (sym (first_answers a b n h) ∙ e))

-- Every check of a list has a number of a kind.
abbrev pub of_kind : (ℕ → Bool) → List Check → Bool
of_kind kind [] = true
of_kind kind (check ∷ checks) = kind check.number && of_kind kind checks

-- So the first that applies gives one of that kind, if 0 is of that kind too.
pub first_of_kind : (kind : ℕ → Bool) → kind 0 ≡ true → (checks : List Check) → of_kind kind checks ≡ true → kind (first checks) ≡ true
first_of_kind kind z [] e = z
first_of_kind kind z (check ∷ checks) e =
    let both = (and-eq-true_iff (kind check.number) (of_kind kind checks)).0 e in
    by check.applies both.0 (first_of_kind kind z checks both.1)
  where
    by : (b : Bool) → kind check.number ≡ true → kind (first checks) ≡ true → kind (cond b check.number (first checks)) ≡ true
    by true h r = h
    by false h r = r
