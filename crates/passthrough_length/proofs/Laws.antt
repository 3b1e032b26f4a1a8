-- Laws that the functions' proofs share.
use mathlib.Core.Path.{◌≡◌, refl}
use mathlib.Core.Bool.{Bool, true, false, cond, ◌&&◌, true≢false}
use mathlib.Core.List.{List, [], ◌∷◌}
use Prim.Native.Nat.{ℕ, ◌*◌, ◌^◌, ◌<◌}
use lib.Dec.{eqb, eqb-suc-zero}
use lib.ListN.{length}
use borrow.Author.Tests.{eq-eqb, ne_eqb}
use Rattle.identify.specs.Sector.{sector_size}
use Rattle.passthrough_length.specs.Helpers.{Lent}
use Rattle.passthrough_length.specs.Length.{bytes_in}
use lib.Pow.{pow_pos}
use native.Mathlib.Nat.{le_of_lt, lt_of_le_of_lt, mul-le-mul_right, mul-lt-mul_of_pos_left}

-- The length rule's product over the width of a field and of a size: a count of w bits, times a size of v bits, has v + w bits at most.
pub product : (v w : ℕ) {size n : ℕ} → size < 2 ^ v → n < 2 ^ w → size * n < 2 ^ v * 2 ^ w
product v w s h = lt_of_le_of_lt (mul-le-mul_right _ (le_of_lt s)) (mul-lt-mul_of_pos_left h (pow_pos v))

-- A field asked for by number: the number that it has answers, and any other leaves the answer to what is asked after it.
pub found : {t field : ℕ} (n r a b : ℕ) → t ≡ field → t ≡ n → r ≡ a → r ≡ cond (eqb field n) a b
found n r a b e here h = rw (← e, eq-eqb _ _ here) h

pub passed : {t field : ℕ} (n r a b : ℕ) → t ≡ field → (t ≡ n → ⊥) → r ≡ b → r ≡ cond (eqb field n) a b
passed n r a b e other h = rw (← e, ne_eqb _ _ other) h

-- What a field's number counts, from how the code holds it and BYTE_BLOCK.
pub counts : {b : Bool} {m : ℕ} (c : Bool) (size n r : ℕ) → b ≡ c → m ≡ n → r ≡ bytes_in b size m → r ≡ bytes_in c size n
counts c size n r e f h = rw (← e, ← f) h

-- For `search`: each answer of a function that asks so, from the tests that led there.
pub ruleset by_number = (found, passed, counts)

-- Without a block of 512 bytes sectors count 512 each: a lent block has that size or is none.
pub no_block : (later sectors : Bool) (block : List ℕ) → Lent later block → (later && sectors && eqb (length block) 512) ≡ false → 512 ≡ cond (later && sectors) (sector_size block) 512
unfolding sector_size
no_block false sectors block l e = refl
no_block true false block l e = refl
no_block true true [] l e = refl
no_block true true (byte ∷ block) l e = absurd (true≢false (rw (e, eqb-suc-zero (length block)) at l))
