-- Laws of names: when some bit is one, and when a block carries a name.
use mathlib.Core.Path.{◌≡◌, refl}
use mathlib.Core.Bool.{true, false, and-eq-true_iff}
use mathlib.Core.List.{List, [], ◌∷◌}
use Prim.Native.Nat.{ℕ, zero, suc, ◌<◌}
use native.Mathlib.Nat.{le_of_suc-le-suc, not-suc-le-zero}
use native.Mathlib.Omega.{arith}
use lib.Dec.{eqb-suc-zero}
use lib.ListN.{length, get_or}
use borrow.Author.Tests.{eq-eqb, ne_eqb}
use Rattle.identify.specs.Block.{word, name}
use Rattle.identify.specs.Names.{some_bit, says_named, carries_name}

-- No bit is one where every byte is zero, and some bit is one where some byte is not.
pub no_bit : (s : List ℕ) → ((k : ℕ) → k < length s → get_or s k 0 ≡ 0) → some_bit s ≡ false
unfolding some_bit
no_bit [] z = refl
no_bit (b ∷ s) z = rw (eq-eqb b 0 (z 0 (omega arith))) (no_bit s (λ k h. z (suc k) (omega arith)))

pub some_bit_at : (s : List ℕ) (k : ℕ) → k < length s → (get_or s k 0 ≡ 0 → ⊥) → some_bit s ≡ true
unfolding some_bit
some_bit_at [] k h n = absurd (not-suc-le-zero h)
some_bit_at (b ∷ s) zero h n = rw (ne_eqb b 0 n)
some_bit_at (zero ∷ s) (suc k) h n = some_bit_at s k (le_of_suc-le-suc h) n
some_bit_at (suc b ∷ s) (suc k) h n = rw (eqb-suc-zero b)

-- A block that carries a name has some bit in its name words; and where word 87 says so, that is all that is left to ask.
pub named_some_bit : (block : List ℕ) → carries_name block ≡ true → some_bit (name block) ≡ true
unfolding carries_name
named_some_bit block e = ((and-eq-true_iff (says_named (word block 87)) (some_bit (name block))).0 e).1

pub said_named : (block : List ℕ) → says_named (word block 87) ≡ true → carries_name block ≡ some_bit (name block)
unfolding carries_name
said_named block s = rw s
