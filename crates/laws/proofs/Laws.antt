-- The laws of cutting and turning, proved.
use mathlib.Core.Path.{◌≡◌, refl, ap, ◌∙◌, sym}
use mathlib.Core.List.{List, [], ◌∷◌}
use Prim.Native.Nat.{ℕ, zero, suc, ◌*◌, min}
use native.Mathlib.Omega.{arith}
use lib.Dec.{eqb-suc-zero}
use lib.ListN.{length, take}
use lib.Seq.{take_all, take-nil}
use Rattle.texts.specs.Text.{turned, space}
use Rattle.laws.specs.Laws.{CutTwice, CutInEitherOrder, CutToMore, CutToTheSize, TurnedTwice, SpacedTwice, TurnedEach, TurnedSpaced, CutTurned}

-- The lesser of nothing and n, and of two numbers that are one more.
least_of_none : (n : ℕ) → min zero n ≡ zero
least_of_none n = omega arith

none_is_least : (n : ℕ) → min n zero ≡ zero
none_is_least n = omega arith

one_more : (a b : ℕ) → min (suc a) (suc b) ≡ suc (min a b)
one_more a b = omega arith

pub cut_twice : CutTwice
cut_twice zero b s = rw (least_of_none b) (take-nil b)
cut_twice (suc a) zero s = rw (none_is_least (suc a))
cut_twice (suc a) (suc b) [] = rw (take-nil (suc a), take-nil (min (suc a) (suc b)))
cut_twice (suc a) (suc b) (x ∷ s) = rw (one_more a b) (ap (λ (r : List ℕ). x ∷ r) (cut_twice a b s))

pub cut_in_either_order : CutInEitherOrder
cut_in_either_order a b s =
    let e : min a b ≡ min b a = omega arith in
    cut_twice a b s ∙ ap (λ (n : ℕ). take n s) e ∙ sym (cut_twice b a s)

pub cut_to_more : CutToMore
cut_to_more n s h = take_all n s h

pub cut_to_the_size : CutToTheSize
cut_to_the_size n s = sym (cut_twice (length s) n s) ∙ ap (take n) (take_all (length s) s (omega arith))

pub turned_twice : TurnedTwice
unfolding turned
turned_twice [] = refl
turned_twice (a ∷ []) = refl
turned_twice (a ∷ b ∷ s) = ap (λ (t : List ℕ). a ∷ b ∷ t) (turned_twice s)

-- So texts that are equal turned are equal.
pub turned_injective : {s t : List ℕ} → turned s ≡ turned t → s ≡ t
turned_injective {s} {t} e = sym (turned_twice s) ∙ ap turned e ∙ turned_twice t

space_twice : (b : ℕ) → space (space b) ≡ space b
space_twice zero = refl
space_twice (suc b) = rw (eqb-suc-zero b, eqb-suc-zero b)

pub spaced_twice : SpacedTwice
spaced_twice [] = refl
spaced_twice (b ∷ s) = rw (space_twice b, spaced_twice s)

pub turned_each : TurnedEach
unfolding turned
turned_each f [] = refl
turned_each f (a ∷ []) = refl
turned_each f (a ∷ b ∷ s) = ap (λ (t : List ℕ). f b ∷ f a ∷ t) (turned_each f s)

pub turned_spaced : TurnedSpaced
turned_spaced s = turned_each space s

double : (k : ℕ) → 2 * suc k ≡ suc (suc (2 * k))
double k = omega arith

pub cut_turned : CutTurned
unfolding turned
cut_turned zero s = refl
cut_turned (suc k) [] = rw (double k)
cut_turned (suc k) (a ∷ []) = rw (double k)
cut_turned (suc k) (a ∷ b ∷ s) = rw (double k) (ap (λ (t : List ℕ). b ∷ a ∷ t) (cut_turned k s))
