-- Laws of sums, and of runs of blocks.
use Rattle.std.proofs.Common.{◌≡◌, ℕ, zero, suc, ◌+◌, ◌%◌, ◌<◌, ◌≤◌, Bool, true, false, ◌&&◌, ◌||◌, eqb, List, [], ◌∷◌, ◌++◌, length, get_or, drop, sym, refl, ap, ◌∙◌, true≢false, le_of_suc-le-suc, not-suc-le-zero, arith, drop_of_length-le, drop-cons, eqb-true}
use mathlib.Core.Bool.{or_assoc, or-false, or-true, and-false, and-eq-true_iff}
use Rattle.checksum.specs.Checksum.{sum_of, damaged, damaged_by, any_damaged}

pub sum_append : (a b : List ℕ) → sum_of (a ++ b) ≡ sum_of a + sum_of b
unfolding sum_of
sum_append [] b = omega arith
sum_append (x ∷ a) b = ap (λ (n : ℕ). x + n) (sum_append a b) ∙ omega arith

-- A loop that adds the bytes up modulo 256, before its turn i: what is left to add takes the sum to where it is to be.
pub record Summing (bytes : List ℕ) (sum i : ℕ) : Type 0 where
  pub upto : i ≤ length bytes
  pub left : (sum + sum_of (drop i bytes)) % 256 ≡ sum_of bytes % 256
  pub small : sum < 256

pub none_yet : (bytes : List ℕ) → Summing bytes 0 0
none_yet bytes = record { upto = omega arith; left = omega arith; small = omega arith }

pub more : {bytes : List ℕ} {sum i : ℕ} (v : ℕ) → Summing bytes sum i → i < length bytes → v ≡ (sum + get_or bytes i 0) % 256 → Summing bytes v (i + 1)
unfolding sum_of
more {bytes} {sum} {i} v s h e =
    let k : i + 1 ≡ suc i = omega arith in
    let d : (sum + (get_or bytes i 0 + sum_of (drop (suc i) bytes))) % 256 ≡ sum_of bytes % 256 = rw (drop-cons bytes i 0 h) at s.left in
    record { upto = omega arith; left = rw k (omega (arith, d, e)); small = omega (arith, e) }

pub all_summed : {bytes : List ℕ} {sum i : ℕ} → Summing bytes sum i → length bytes ≤ i → sum ≡ sum_of bytes % 256
unfolding sum_of
all_summed {bytes} {sum} {i} s h =
    let d : (sum + 0) % 256 ≡ sum_of bytes % 256 = rw (drop_of_length-le bytes {i = i} h) at s.left in
    omega (arith, d, s.small)

-- Damaged in a run that goes on: in the run, or in what is put behind it.
pub damaged_append : (a b : List (List ℕ)) → any_damaged (a ++ b) ≡ (any_damaged a || any_damaged b)
unfolding any_damaged
damaged_append [] b = refl
damaged_append (x ∷ a) b = ap (λ (t : Bool). damaged x || t) (damaged_append a b) ∙ sym (or_assoc (damaged x) (any_damaged a) (any_damaged b))

-- With one block more.
pub damaged_more : (a : List (List ℕ)) (x : List ℕ) → any_damaged (a ++ (x ∷ [])) ≡ (any_damaged a || damaged x)
unfolding any_damaged
damaged_more a x = damaged_append a (x ∷ []) ∙ ap (λ (t : Bool). any_damaged a || t) (or-false (damaged x))

-- One of them suffices.
pub damaged_at : (run : List (List ℕ)) (k : ℕ) → k < length run → damaged (get_or run k []) ≡ true → any_damaged run ≡ true
unfolding any_damaged
damaged_at [] k h e = absurd (not-suc-le-zero h)
damaged_at (x ∷ run) zero h e = rw e
damaged_at (x ∷ run) (suc k) h e = rw (damaged_at run k (le_of_suc-le-suc h) e, or-true)

-- And where there is none, none is.
pub all_pass : (run : List (List ℕ)) → ((k : ℕ) → k < length run → damaged (get_or run k []) ≡ false) → any_damaged run ≡ false
unfolding any_damaged
all_pass [] z = refl
all_pass (x ∷ run) z = rw (z 0 (omega arith)) (all_pass run (λ k h. z (suc k) (omega arith)))

pub each_passes : (run : List (List ℕ)) → any_damaged run ≡ false → (k : ℕ) → k < length run → damaged (get_or run k []) ≡ false
each_passes run e k h = by (damaged (get_or run k [])) refl
  where
    by : (t : Bool) → damaged (get_or run k []) ≡ t → t ≡ false
    by true d = absurd (true≢false (sym (damaged_at run k h d) ∙ e))
    by false d = refl

-- Only a block of 512 bytes is damaged,
pub damaged_size : (block : List ℕ) → damaged block ≡ true → length block ≡ 512
unfolding damaged damaged_by
damaged_size block e =
    let asked = eqb (get_or block 510 0) 0xA5 in
    eqb-true _ _ ((and-eq-true_iff (eqb (length block) 512) asked).0 ((and-eq-true_iff (eqb (length block) 512 && asked) _).0 e).0).0

-- and only one with A5h in byte 510.
pub unsigned_passes : (block : List ℕ) → eqb (get_or block 510 0) 0xA5 ≡ false → damaged block ≡ false
unfolding damaged damaged_by
unsigned_passes block e = rw (e, and-false)
