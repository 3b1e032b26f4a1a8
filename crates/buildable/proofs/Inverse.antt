-- Fields of a command and what they say in an order, there and back.
use mathlib.Core.Path.{◌≡◌, refl, sym, ◌∙◌}
use mathlib.Core.Bool.{Bool, true, false, cond}
use mathlib.Core.List.{List, [], ◌∷◌}
use Prim.Native.Nat.{ℕ, suc, ◌*◌, ◌%◌, ◌^◌, ◌<◌}
use native.Mathlib.Nat.{not-suc-le-zero, le_of_suc-le-suc}
use lib.Dec.{eqb}
use lib.ListN.{length, get_or}
use borrow.Author.Tests.{eqb-true}
use Rattle.rules.specs.Bits.{bit, flag}
use Rattle.rules.proofs.Below.{all_below, at}
use Rattle.passthrough_length.specs.Length.{bytes_in}
use Rattle.passthrough_order.specs.Order.{quiet_seconds}
use Rattle.buildable.specs.Fields.{place, quiet_times, off_line_for, sector_counts, multiple_count_for, length_bits}

-- What stands at the place of a number is the number, where it has one.
step : (m n k : ℕ) (ms : List ℕ) (b : Bool) → eqb n m ≡ b → (k < length ms → get_or ms k 0 ≡ n) → cond b 0 (suc k) < suc (length ms) → get_or (m ∷ ms) (cond b 0 (suc k)) 0 ≡ n
step m n k ms true e r h = sym (eqb-true n m e)
step m n k ms false e r h = r (le_of_suc-le-suc h)

pub at_place : (ms : List ℕ) (n : ℕ) → place ms n < length ms → get_or ms (place ms n) 0 ≡ n
at_place [] n h = absurd (not-suc-le-zero h)
at_place (m ∷ ms) n h = step m n (place ms n) ms (eqb n m) refl (at_place ms n) h

-- OFF_LINE and quiet seconds.
pub off_line_back : (i : ℕ) → i < 4 → off_line_for (quiet_seconds i) ≡ i
unfolding all_below
off_line_back i h = eqb-true _ _ (at (λ j. eqb (off_line_for (quiet_seconds j)) j) 4 refl i h)

pub quiet_back : (n : ℕ) → off_line_for n < 4 → quiet_seconds (off_line_for n) ≡ n
unfolding all_below
quiet_back n h =
    eqb-true _ _ (at (λ j. eqb (quiet_seconds j) (get_or quiet_times j 0)) 4 refl (off_line_for n) h)
    ∙ at_place quiet_times n h

-- MULTIPLE_COUNT and sectors per block.
pub multiple_count_back : (i : ℕ) → i < 8 → multiple_count_for (2 ^ i) ≡ i
unfolding all_below
multiple_count_back i h = eqb-true _ _ (at (λ j. eqb (multiple_count_for (2 ^ j)) j) 8 refl i h)

pub sectors_back : (n : ℕ) → multiple_count_for n < 8 → 2 ^ multiple_count_for n ≡ n
unfolding all_below
sectors_back n h =
    eqb-true _ _ (at (λ j. eqb (2 ^ j) (get_or sector_counts j 0)) 8 refl (multiple_count_for n) h)
    ∙ at_place sector_counts n h

-- A yes or no, and the number that it is.
pub flag_back : (b : Bool) → eqb (flag b) 1 ≡ b
flag_back true = refl
flag_back false = refl

pub yes_back : (n : ℕ) → n < 2 → flag (eqb n 1) ≡ n
unfolding all_below
yes_back n h = eqb-true _ _ (at (λ j. eqb (flag (eqb j 1)) j) 2 refl n h)

-- The length that T_LENGTH and BYTE_BLOCK point at, from the three bits.
abbrev pub pointed : ℕ → ℕ → ℕ → ℕ → ℕ
pointed bits features count declared =
    cond (eqb (bits % 4) 0) 0
    (cond (eqb (bits % 4) 1) (bytes_in (bit 2 bits) 512 features)
    (cond (eqb (bits % 4) 2) (bytes_in (bit 2 bits) 512 count)
    declared))

pick : (features count length n rest : ℕ) (b : Bool) → (b ≡ true → pointed n features count length ≡ length) → pointed rest features count length ≡ length → pointed (cond b n rest) features count length ≡ length
pick features count length n rest true h r = h refl
pick features count length n rest false h r = r

pub length_back : (length count features : ℕ) → pointed (length_bits length count features) features count length ≡ length
length_back l c f =
    pick f c l 0 _ (eqb l 0) (λ e. sym (eqb-true l 0 e))
    (pick f c l 6 _ (eqb l (512 * c)) (λ e. sym (eqb-true l (512 * c) e))
    (pick f c l 2 _ (eqb l c) (λ e. sym (eqb-true l c e))
    (pick f c l 5 _ (eqb l (512 * f)) (λ e. sym (eqb-true l (512 * f) e))
    (pick f c l 1 3 (eqb l f) (λ e. sym (eqb-true l f e)) refl))))
