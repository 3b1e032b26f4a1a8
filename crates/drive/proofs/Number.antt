-- Laws of bytes as one number: its bytes, and operations on it that work on each byte apart.
use mathlib.Core.Path.{◌≡◌, refl, sym, ap, ◌∙◌}
use mathlib.Core.Bool.{Bool, true, false, cond}
use mathlib.Core.List.{List, [], ◌∷◌, map}
use Prim.Native.Nat.{ℕ, zero, suc, ◌+◌, ◌-◌, ◌*◌, ◌/◌, ◌%◌, ◌^◌, ◌≤◌, ◌<◌}
use native.Mathlib.Omega.{arith}
use lib.Bits.{bit_and, bit_or, and_block, or_block, or_lt, and_le_r, and_mask, and_high, or_shr, or_zero_r}
use lib.Dec.{eqb, eqb-suc-zero}
use lib.ListN.{length, get_or, drop, replicate, drop_of_length-le}
use borrow.Author.Tests.{eqb-true, eqb-false}
use Rattle.texts.specs.Text.{space, spaced}
use Rattle.identify.specs.Bytes.{Bytes, no_more, more, equal}
use Rattle.identify.proofs.Bytes.{equal_of, not_equal}
use Rattle.drive.specs.Helpers.{number}

-- The bytes from a place on: the byte there, and those behind it.
byte_of : (k : ℕ) (s : List ℕ) → number (drop k s) ≡ get_or s k 0 + 0x100 * number (drop (suc k) s)
unfolding number
byte_of zero [] = refl
byte_of zero (b ∷ s) = refl
byte_of (suc k) [] = refl
byte_of (suc k) (b ∷ s) = byte_of k s

-- Eight bytes, in pairs.
pub eight_bytes_is : (s : List ℕ) → length s ≡ 8 → number s ≡ get_or s 0 0 + 0x100 * get_or s 1 0 + 0x10000 * (get_or s 2 0 + 0x100 * get_or s 3 0) + 0x100000000 * (get_or s 4 0 + 0x100 * get_or s 5 0 + 0x10000 * (get_or s 6 0 + 0x100 * get_or s 7 0))
unfolding number
eight_bytes_is s l =
    omega (arith, byte_of 0 s, byte_of 1 s, byte_of 2 s, byte_of 3 s, byte_of 4 s, byte_of 5 s, byte_of 6 s, byte_of 7 s, ap number (drop_of_length-le s {i = 8} (omega arith)))

-- A list of bytes, and one with its zero bytes as spaces.
pub all_bytes : (s : List ℕ) → ((k : ℕ) → get_or s k 0 < 0x100) → Bytes s
all_bytes [] h = no_more
all_bytes (b ∷ s) h = more (h 0) (all_bytes s (λ k. h (suc k)))

space_byte : (byte : ℕ) → byte < 0x100 → space byte < 0x100
space_byte zero h = omega arith
space_byte (suc byte) h = rw (eqb-suc-zero byte) h

pub bytes_spaced : {s : List ℕ} → Bytes s → Bytes (spaced s)
bytes_spaced no_more = no_more
bytes_spaced (more {byte} h b) = more (space_byte byte h) (bytes_spaced b)

-- As many bytes with one number are the same bytes.
pub same_number : {s t : List ℕ} → Bytes s → Bytes t → length s ≡ length t → number s ≡ number t → s ≡ t
unfolding number
same_number no_more no_more l e = refl
same_number no_more (more k c) l e = absurd (omega arith)
same_number (more h b) no_more l e = absurd (omega arith)
same_number (more {byte = x} {bytes = s} h b) (more {byte = y} {bytes = t} k c) l e =
    let first : x ≡ y = omega arith in
    let rest : s ≡ t = same_number b c (omega arith) (omega arith) in
    cc

pub equal_number : {s t : List ℕ} → Bytes s → Bytes t → length s ≡ length t → equal s t ≡ eqb (number s) (number t)
equal_number {s} {t} b c l = by (eqb (number s) (number t)) refl
  where
    by : (e : Bool) → eqb (number s) (number t) ≡ e → equal s t ≡ e
    by true e = equal_of (same_number b c l (eqb-true (number s) (number t) e))
    by false e = not_equal s t (λ p. eqb-false (number s) (number t) e (ap number p))

-- A byte and those behind it, as the laws of bit operations have them.
at_front : (byte rest : ℕ) → byte + 0x100 * rest ≡ rest * 2 ^ 8 + byte
at_front byte rest = omega arith

-- With the bit of a space set in each byte, it is one whether zero bytes are spaces.
or_space : {s : List ℕ} → Bytes s → bit_or (number s) (number (replicate (length s) 0x20)) ≡ bit_or (number (spaced s)) (number (replicate (length s) 0x20))
unfolding number
or_space no_more = refl
or_space (more {byte} {bytes = s} h b) =
    let all = number (replicate (length s) 0x20) in
    rw (
      at_front byte (number s),
      at_front (space byte) (number (spaced s)),
      at_front 0x20 all,
      or_block 8 (number s) all byte 0x20 h (omega arith),
      or_block 8 (number (spaced s)) all (space byte) 0x20 (space_byte byte h) (omega arith),
      or_space b,
      set byte,
    )
  where
    set : (byte : ℕ) → bit_or byte 0x20 ≡ bit_or (space byte) 0x20
    set zero = refl
    set (suc byte) = rw (eqb-suc-zero byte)

pub spaces_set : {s t : List ℕ} → Bytes s → Bytes t → length s ≡ 8 → length t ≡ 8 → spaced s ≡ spaced t → bit_or (number s) 0x2020202020202020 ≡ bit_or (number t) 0x2020202020202020
unfolding number
spaces_set {s} {t} b c l m e =
    rw l at (or_space b) ∙ ap (λ (u : List ℕ). bit_or (number u) 0x2020202020202020) e ∙ sym (rw m at (or_space c))

-- The top bits of the bytes that are not zero: of n bytes, and of one.
abbrev pub tops : ℕ → ℕ → ℕ
tops n x = bit_and (bit_or (bit_and x (number (replicate n 0x7F)) + number (replicate n 0x7F)) x) (number (replicate n 0x80))

abbrev top : ℕ → ℕ
top byte = bit_and (bit_or (bit_and byte 0x7F + 0x7F) byte) 0x80

tops_more : (n byte x : ℕ) → byte < 0x100 → tops (suc n) (byte + 0x100 * x) ≡ top byte + 0x100 * tops n x
unfolding number
tops_more n byte x h =
    let low = number (replicate n 0x7F) in
    let high = number (replicate n 0x80) in
    let seven : bit_and byte 0x7F ≤ 0x7F = and_le_r byte 0x7F in
    let sum : bit_and x low * 2 ^ 8 + bit_and byte 0x7F + (low * 2 ^ 8 + 0x7F) ≡ (bit_and x low + low) * 2 ^ 8 + (bit_and byte 0x7F + 0x7F) = omega arith in
    let last : bit_or (bit_and byte 0x7F + 0x7F) byte < 2 ^ 8 = or_lt 8 (bit_and byte 0x7F + 0x7F) byte (omega arith) h in
    rw (
      at_front byte x,
      at_front 0x7F low,
      at_front 0x80 high,
      and_block 8 x low byte 0x7F h (omega arith),
      sum,
      or_block 8 (bit_and x low + low) x (bit_and byte 0x7F + 0x7F) byte (omega arith) h,
      and_block 8 (bit_or (bit_and x low + low) x) high (bit_or (bit_and byte 0x7F + 0x7F) byte) 0x80 last (omega arith),
    ) (omega arith)

-- What makes a zero byte a space, and any other itself.
abbrev gap : ℕ → ℕ
gap byte = cond (eqb byte 0) 0x20 0

-- It is a quarter of the top bit that the byte lacks.
top_of : (byte : ℕ) → byte < 0x100 → 0x80 ≡ top byte + 4 * gap byte
top_of zero h = refl
top_of (suc byte) h = rw (eqb-suc-zero byte, set (suc byte) (omega arith) h)
  where
    -- One of two bits.
    one : (p q : ℕ) → p < 2 → q < 2 → 0 < p + q → bit_or p q ≡ 1
    one zero zero hp hq h = absurd (omega arith)
    one zero (suc zero) hp hq h = refl
    one zero (suc (suc q)) hp hq h = absurd (omega arith)
    one (suc zero) zero hp hq h = refl
    one (suc zero) (suc zero) hp hq h = refl
    one (suc zero) (suc (suc q)) hp hq h = absurd (omega arith)
    one (suc (suc p)) q hp hq h = absurd (omega arith)

    set : (byte : ℕ) → 0 < byte → byte < 0x100 → top byte ≡ 0x80
    set byte p h =
        let c = bit_and byte 0x7F + 0x7F in
        let seven : bit_and byte 0x7F ≡ byte % 0x80 = and_mask byte 7 in
        and_high (bit_or c byte) 1 7
        ∙ ap (λ (n : ℕ). n % 2 ^ 1 * 2 ^ 7) (or_shr c byte 7 ∙ one (c / 0x80) (byte / 0x80) (omega arith) (omega arith) (omega arith))

tops_of : {s : List ℕ} → Bytes s → number (replicate (length s) 0x80) ≡ tops (length s) (number s) + 4 * number (map gap s)
unfolding number
tops_of no_more = refl
tops_of (more {byte} {bytes = s} h b) = rw (tops_more (length s) byte (number s) h) (omega (arith, top_of byte h, tops_of b))

filled : {s : List ℕ} → Bytes s → bit_or (number s) (number (map gap s)) ≡ number (spaced s)
unfolding number
filled no_more = refl
filled (more {byte} {bytes = s} h b) =
    rw (
      at_front byte (number s),
      at_front (gap byte) (number (map gap s)),
      or_block 8 (number s) (number (map gap s)) byte (gap byte) h (small byte),
      filled b,
      set byte,
    ) (omega arith)
  where
    small : (byte : ℕ) → gap byte < 0x100
    small zero = omega arith
    small (suc byte) = rw (eqb-suc-zero byte) (omega arith)

    set : (byte : ℕ) → bit_or byte (gap byte) ≡ space byte
    set zero = refl
    set (suc byte) = rw (eqb-suc-zero byte) (or_zero_r (suc byte))

pub spaced_number : {s : List ℕ} → Bytes s → length s ≡ 8 → bit_or (number s) ((0x8080808080808080 - tops 8 (number s)) / 4) ≡ number (spaced s)
unfolding number
spaced_number {s} b l =
    let quarter : (0x8080808080808080 - tops 8 (number s)) / 4 ≡ number (map gap s) = omega (arith, rw l at (tops_of b)) in
    rw quarter (filled b)
