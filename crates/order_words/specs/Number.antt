-- Numbers in a line, decimal, or hexadecimal behind 0x (RULES 16.5).
use Rattle.std.specs.Prelude.{Bool, cond, ◌&&◌, List, [], ◌∷◌, ℕ, ◌+◌, ◌*◌, ◌-◌, ◌^◌, min, eqb, leb, ltb, codes, length, take, drop, Option, Some, None, option_map, option_and_then}
use Rattle.std.specs.Str.{bytes_eq}

-- A byte from the first to the last.
abbrev pub within : ℕ → ℕ → ℕ → Bool
within first last byte = leb first byte && leb byte last

-- What a byte stands for as a digit.
unfoldable pub digit : ℕ → Option ℕ
digit byte =
    cond (within 0x30 0x39 byte) (Some (byte - 0x30))
    (cond (within 0x41 0x46 byte) (Some (byte - 0x37))
    (cond (within 0x61 0x66 byte) (Some (byte - 0x57))
    None))

-- The same as a digit of a base, which is below it.
unfoldable pub digit_of : ℕ → ℕ → Option ℕ
digit_of base byte = option_and_then (λ digit. cond (ltb digit base) (Some digit) None) (digit byte)

-- The number that digits make, behind those that make `before`; none where a byte is no digit.
unfoldable pub worth : ℕ → ℕ → List ℕ → Option ℕ
worth base before [] = Some before
worth base before (byte ∷ bytes) = option_and_then (λ digit. worth base (base * before + digit) bytes) (digit_of base byte)

-- What 64 bits hold of a number: the largest that they do, where it is larger. No field holds that one.
abbrev pub held : Option ℕ → Option ℕ
held number = option_map (λ n. min n (2 ^ 64 - 1)) number

-- The number of a base that bytes are; no bytes are none.
abbrev pub in_base : ℕ → List ℕ → Option ℕ
in_base base text = cond (eqb (length text) 0) None (held (worth base 0 text))

-- 0x stands in front.
abbrev pub hexadecimal : List ℕ → Bool
hexadecimal text = bytes_eq (take 2 text) (codes "0x")

unfoldable pub number_of : List ℕ → Option ℕ
number_of text = cond (hexadecimal text) (in_base 16 (drop 2 text)) (in_base 10 text)
