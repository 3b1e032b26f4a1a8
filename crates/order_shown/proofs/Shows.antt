-- Laws of what is shown of a command.
use Rattle.std.proofs.Common.{◌≡◌, refl, ap, ℕ, ◌+◌, ◌*◌, ◌/◌, ◌^◌, ◌≤◌, ◌<◌, ◌%◌, List, [], ◌∷◌, ◌++◌, length, arith, ◌∙◌, length-append}
use Rattle.std.specs.List.{flat_map}
use Rattle.std.specs.Fmt.{decimal}
use Rattle.std.proofs.lemmas.Fmt.{decimal_step}
use Rattle.order_shown.specs.Shown.{shown_byte, shown_bytes}

-- Bytes, with a space behind each.
abbrev pub spaced : List ℕ → List ℕ
spaced bytes = flat_map (λ byte. shown_byte byte ++ 0x20 ∷ []) bytes

pub length_spaced : (bytes : List ℕ) → length (spaced bytes) ≡ 3 * length bytes
length_spaced [] = refl
length_spaced (byte ∷ bytes) = omega (arith, length_spaced bytes)

-- A space before each byte but the first is one behind each but the last.
spaced_from : (first : ℕ) (front : List ℕ) (last : ℕ) → shown_bytes ((first ∷ front) ++ last ∷ []) ≡ spaced (first ∷ front) ++ shown_byte last
spaced_from first [] last = refl
spaced_from first (byte ∷ front) last = ap (λ others. shown_byte first ++ 0x20 ∷ others) (spaced_from byte front last)

pub spaced_to_last : (front : List ℕ) (last : ℕ) → shown_bytes (front ++ last ∷ []) ≡ spaced front ++ shown_byte last
spaced_to_last [] last = refl
spaced_to_last (first ∷ front) last = spaced_from first front last

-- A number of more than one digit has one more than what stands before its last.
pub digits_step : (n : ℕ) → 10 ≤ n → n < 2 ^ 64 → length (decimal n) ≡ length (decimal (n / 10)) + 1
digits_step n h f = ap length (decimal_step n h f) ∙ length-append (decimal (n / 10)) ((48 + n % 10) ∷ [])
