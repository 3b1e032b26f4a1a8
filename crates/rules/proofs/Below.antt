-- A rule at every row of a table, by one test that is computed.
use mathlib.Core.Path.{◌≡◌, ap, ◌∙◌}
use mathlib.Core.Bool.{Bool, true, ◌&&◌, and-eq-true_iff}
use mathlib.Core.Logic.{⊎_elim}
use Prim.Native.Nat.{ℕ, zero, suc, ◌-◌, ◌<◌}
use native.Mathlib.Nat.{eq-zero-or-pos, not-suc-le-zero}
use native.Mathlib.Omega.{arith}

-- A test that passes at every number below n.
unfoldable pub all_below : (ℕ → Bool) → ℕ → Bool
all_below f zero = true
all_below f (suc n) = f n && all_below f n

pub at : (f : ℕ → Bool) (n : ℕ) → all_below f n ≡ true → (k : ℕ) → k < n → f k ≡ true
unfolding all_below
at f zero e k h = absurd (not-suc-le-zero h)
at f (suc n) e k h =
    let both = (and-eq-true_iff (f n) (all_below f n)).0 e in
    ⊎_elim (λ z. ap f (omega arith) ∙ both.0) (λ z. at f n both.1 k (omega arith)) (eq-zero-or-pos (n - k))
