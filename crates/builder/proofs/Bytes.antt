-- Eight bytes, and the number that they are.
use mathlib.Core.Path.{◌≡◌}
use mathlib.Core.List.{List, [], ◌∷◌, ◌++◌}
use Prim.Native.Nat.{ℕ, ◌+◌, ◌*◌, ◌/◌, ◌%◌, ◌<◌}
use native.Mathlib.Omega.{arith}
use Rattle.builder.specs.declared.packed.Packed.{Packed}
use Rattle.builder.specs.Helpers.{eight_bytes, bytes_of}

module _ (a b c d e f g h n : ℕ) (ha : a < 0x100) (hb : b < 0x100) (hc : c < 0x100) (hd : d < 0x100) (he : e < 0x100) (hf : f < 0x100) (hg : g < 0x100) (hh : h < 0x100) (is : n ≡ 0x100000000 * (0x10000 * (0x100 * h + g) + (0x100 * f + e)) + (0x10000 * (0x100 * d + c) + (0x100 * b + a))) where
  at_0 : n % 0x100 ≡ a
  at_0 = omega arith

  at_1 : n / 0x100 % 0x100 ≡ b
  at_1 = omega arith

  at_2 : n / 0x10000 % 0x100 ≡ c
  at_2 = omega arith

  at_3 : n / 0x1000000 % 0x100 ≡ d
  at_3 = omega arith

  at_4 : n / 0x100000000 % 0x100 ≡ e
  at_4 = omega arith

  at_5 : n / 0x10000000000 % 0x100 ≡ f
  at_5 = omega arith

  at_6 : n / 0x1000000000000 % 0x100 ≡ g
  at_6 = omega arith

  at_7 : n / 0x100000000000000 % 0x100 ≡ h
  at_7 = omega arith

  pub eight_bytes_is : eight_bytes n ≡ a ∷ b ∷ c ∷ d ∷ e ∷ f ∷ g ∷ h ∷ []
  eight_bytes_is = rw (at_0, at_1, at_2, at_3, at_4, at_5, at_6, at_7)

-- What is packed in two numbers.
pub both : (packed : Packed) {s t : List ℕ} → eight_bytes packed.first ≡ s → eight_bytes packed.second ≡ t → bytes_of packed ≡ s ++ t
both packed p q = rw (← p, ← q)
