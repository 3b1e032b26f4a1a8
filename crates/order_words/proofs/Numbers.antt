-- Laws of digits and of the numbers that they make.
use Rattle.std.proofs.Common.{◌≡◌, refl, sym, ap, ◌∙◌, ℕ, suc, ◌+◌, ◌*◌, ◌-◌, ◌^◌, ◌≤◌, ◌<◌, min, List, [], ◌∷◌, length, get_or, drop, drop-cons, arith, Option, Some, None, option_and_then}
use mathlib.Core.Logic.{⊎_elim}
use native.Mathlib.Nat.{mul-le-mul_right, eq-zero-or-pos}
use native.Mathlib.Numerals.{add-one}
use lib.ListN.{drop_of_length-le}
use Rattle.std.specs.Char.{digit_value}
use Rattle.std.specs.Option.{SomeIff}
use Rattle.std.proofs.lemmas.Bool.Decides.{nat_tests}
use Rattle.order_words.specs.Number.{digit, digit_of, worth, held}

-- What 64 bits hold.
abbrev top : ℕ
top = 2 ^ 64 - 1

-- What is too large stays so with one digit more: the greater part of it may be forgotten,
forgotten : (base x d c : ℕ) → 1 ≤ base → min (base * min x c + d) c ≡ min (base * x + d) c
forgotten base x d c h = ⊎_elim small great (eq-zero-or-pos (x - c))
  where
    small : x - c ≡ 0 → min (base * min x c + d) c ≡ min (base * x + d) c
    small z =
        let e : min x c ≡ x = omega (arith, z) in
        rw e

    great : 0 < x - c → min (base * min x c + d) c ≡ min (base * x + d) c
    great z =
        let e : min x c ≡ c = omega (arith, z) in
        let one : 1 * c ≤ base * c = mul-le-mul_right c h in
        let two : 1 * x ≤ base * x = mul-le-mul_right x h in
        rw e (omega (arith, one, two, z))

-- and with all digits that are left.
abbrev Capped : ℕ → List ℕ → Type 0
Capped base text = (x : ℕ) → held (worth base (min x top) text) ≡ held (worth base x text)

capped_step : (base x : ℕ) (text : List ℕ) (digit : Option ℕ) → 1 ≤ base → Capped base text → held (option_and_then (λ d. worth base (base * min x top + d) text) digit) ≡ held (option_and_then (λ d. worth base (base * x + d) text) digit)
capped_step base x text None h r = refl
capped_step base x text (Some d) h r =
    sym (r (base * min x top + d))
    ∙ ap (λ (n : ℕ). held (worth base n text)) (forgotten base x d top h)
    ∙ r (base * x + d)

capped : (base : ℕ) (text : List ℕ) → 1 ≤ base → Capped base text
unfolding worth
capped base [] h x = ap Some (omega arith)
capped base (byte ∷ text) h x = capped_step base x text (digit_of base byte) h (capped base text h)

-- A loop over the digits of a text, at its turn i, with the number so far: no digit,
pub no_digit : (base n i : ℕ) (text : List ℕ) → i < length text → digit_of base (get_or text i 0) ≡ None → held (worth base n (drop i text)) ≡ None
unfolding worth
no_digit base n i text h e = rw (drop-cons text i 0 h, e)

-- a digit,
pub one_more : (base n i d : ℕ) (text : List ℕ) → 1 ≤ base → i < length text → digit_of base (get_or text i 0) ≡ Some d → held (worth base (min (min (n * base) top + d) top) (drop (i + 1) text)) ≡ held (worth base n (drop i text))
unfolding worth
one_more base n i d text b h e =
    let m : min (min (n * base) top + d) top ≡ min (base * n + d) top = omega arith in
    rw (drop-cons text i 0 h, e, m, add-one) (capped base (drop (suc i) text) b (base * n + d))

-- and the end.
pub all_digits : (base n i : ℕ) (text : List ℕ) → length text ≤ i → n ≤ top → held (worth base n (drop i text)) ≡ Some n
unfolding worth
all_digits base n i text h low = rw (drop_of_length-le text {i = i} h) (ap Some (omega arith))

-- What std gives for a byte is its digit.
pub digit_is : (base byte : ℕ) (r : Option ℕ) → base ≤ 16 → SomeIff r (digit_value byte < base) (digit_value byte) → r ≡ digit_of base byte
unfolding digit digit_of
digit_is base byte None h none = grind (arith, nat_tests)
digit_is base byte (Some d) h some = grind (arith, nat_tests)
