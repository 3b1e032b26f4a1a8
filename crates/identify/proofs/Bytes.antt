-- Laws of bytes: when two runs of them are equal.
use mathlib.Core.Path.{◌≡◌, refl, sym, ap, ◌∙◌}
use mathlib.Core.Bool.{Bool, true, false, and-eq-true_iff, false≢true}
use mathlib.Core.List.{List, [], ◌∷◌}
use Prim.Native.Nat.{ℕ}
use lib.Dec.{eqb}
use borrow.Author.Tests.{eq-eqb, eqb-true}
use Rattle.identify.specs.Bytes.{equal}

-- `equal` says that two lists are one and the same.
pub equal_self : (s : List ℕ) → equal s s ≡ true
unfolding equal
equal_self [] = refl
equal_self (b ∷ s) = rw (eq-eqb b b refl) (equal_self s)

pub equal_of : {s t : List ℕ} → s ≡ t → equal s t ≡ true
equal_of {s} e = ap (equal s) (sym e) ∙ equal_self s

pub equal_same : (s t : List ℕ) → equal s t ≡ true → s ≡ t
unfolding equal
equal_same [] [] e = refl
equal_same [] (b ∷ t) e = absurd (false≢true e)
equal_same (a ∷ s) [] e = absurd (false≢true e)
equal_same (a ∷ s) (b ∷ t) e =
    let both = (and-eq-true_iff (eqb a b) (equal s t)).0 e in
    rw (eqb-true a b both.0, equal_same s t both.1)

-- A test that cannot be true is false.
pub never : (b : Bool) → (b ≡ true → ⊥) → b ≡ false
never true n = absurd (n refl)
never false n = refl

pub not_equal : (s t : List ℕ) → (s ≡ t → ⊥) → equal s t ≡ false
not_equal s t n = never (equal s t) (λ e. n (equal_same s t e))
