-- The highest one bit of a masked word is the highest one among the bits that the mask leaves; and every class is one of its numbers.
use mathlib.Core.Path.{◌≡◌, sym, ap, subst, ◌∙◌}
use mathlib.Core.Bool.{Bool, true, false, cond}
use mathlib.Core.List.{List}
use mathlib.Core.Logic.{⊎_elim}
use Prim.Native.Nat.{ℕ, zero, suc, ◌+◌, ◌-◌, ◌*◌, ◌/◌, ◌%◌, ◌^◌, ◌≤◌, ◌<◌}
use native.Mathlib.Nat.{eq-zero-or-pos, le_trans, le_antisymm, le_of_suc-le-suc, lt_irrefl, lt_of_lt_of_le, lt_of_not-le, mod-lt, mul-le-mul_right, mul-lt-mul_of_pos_right, zero-mul, add_comm, pow-suc}
use native.Mathlib.Omega.{arith}
use lib.Dec.{eqb}
use lib.Count.{count_leading_zeros, leading_top}
use lib.Bits.{bit_and, and_high}
use lib.Pow.{pow_mono, pow_pos, pow-add, shr-shr, mod-pow-add}
use borrow.Author.Tests.{eq-eqb, ne_eqb}
use Rattle.rules.specs.Bits.{bit}
use Rattle.identify.specs.Block.{word}
use Rattle.classes.specs.Classes.{highest_bit, ultra_dma, major_version, no_mode, no_version}
use Rattle.classes.specs.Helpers.{Highest}

-- A number has one highest one bit.
below : {j k m : ℕ} → m < 2 ^ suc j → 2 ^ k ≤ m → k ≤ j
below h g = le_of_suc-le-suc (lt_of_not-le (λ l. lt_irrefl _ (lt_of_lt_of_le h (le_trans (pow_mono l) g))))

-- What a mask leaves of a word: `count` bits from bit `low` on.
abbrev pub masked : ℕ → ℕ → ℕ → ℕ
masked low count w = (w / 2 ^ low % 2 ^ count) * 2 ^ low

module _ (low w : ℕ) where
  -- The next bit up, on its own.
  abbrev next : ℕ → ℕ
  next count = w / 2 ^ low / 2 ^ count % 2

  more : (count : ℕ) → w / 2 ^ low % 2 ^ suc count ≡ next count * 2 ^ count + w / 2 ^ low % 2 ^ count
  more count = let e : 1 + count ≡ suc count = omega arith in rw e at (mod-pow-add (w / 2 ^ low) 1 count)

  -- A mask that leaves the next bit too leaves a number with that bit for its highest, where it is one.
  topped : (count : ℕ) → next count ≡ 1 → (2 ^ (low + count) ≤ masked low (suc count) w) × (masked low (suc count) w < 2 ^ suc (low + count))
  topped count e = (lower, upper)
    where
      rest : ℕ
      rest = w / 2 ^ low % 2 ^ count

      value : w / 2 ^ low % 2 ^ suc count ≡ 2 ^ count + rest
      value = more count ∙ rw e (omega arith)

      small : rest < 2 ^ count
      small = mod-lt (w / 2 ^ low) (pow_pos count)

      lower : 2 ^ (low + count) ≤ masked low (suc count) w
      lower = rw (value, add_comm low count, pow-add 2 count low) (mul-le-mul_right (2 ^ low) (omega arith))

      double : 2 ^ suc (low + count) ≡ 2 ^ suc count * 2 ^ low
      double = let k : suc (low + count) ≡ suc count + low = omega arith in rw k (pow-add 2 (suc count) low)

      within : 2 ^ count + rest < 2 ^ suc count
      within = rw (pow-suc 2 count) (omega (arith, small))

      upper : masked low (suc count) w < 2 ^ suc (low + count)
      upper = rw (double, value) (mul-lt-mul_of_pos_right within (pow_pos low))

  pub is_highest : (count none place : ℕ) → Highest (masked low count w) none place → highest_bit low count none w ≡ place
  unfolding highest_bit
  is_highest zero none place h =
      let z : w / 2 ^ low % 1 ≡ 0 = omega arith in
      sym (h.of_zero (ap (λ (m : ℕ). m * 2 ^ low) z ∙ zero-mul (2 ^ low)))
  is_highest (suc count) none place h =
      ⊎_elim
      (λ z. rw (shift, ne_eqb (next count) 1 (λ o. omega (arith, z, o))) (is_highest count none place (subst (λ (m : ℕ). Highest (m * 2 ^ low) none place) (more count ∙ rw z (omega arith)) h)))
      (λ p. let one : next count ≡ 1 = omega (arith, p) in
      let t = topped count one in
      let top = h.top (lt_of_lt_of_le (pow_pos (low + count)) t.0) in
      rw (shift, eq-eqb (next count) 1 one) (le_antisymm (below top.1 t.0) (below t.1 top.0)))
      (eq-zero-or-pos (next count))
    where
      shift : w / 2 ^ (low + count) % 2 ≡ next count
      shift = ap (λ (n : ℕ). n % 2) (sym (shr-shr w low count))

-- The zeros in front of a word that is not zero tell where its highest one bit stands.
pub leading : (m : ℕ) → 0 < m → m < 2 ^ 16 → (count_leading_zeros 16 m ≤ 15) × ((none : ℕ) → Highest m none (15 - count_leading_zeros 16 m))
leading m p h =
    let t = leading_top 16 m p h in
    let e : t.0 ≡ 15 - count_leading_zeros 16 m = omega (arith, t.1) in
    (omega (arith, t.1), λ none. record { of_zero = λ z. absurd (omega (arith, p, z)); top = λ q. rw (← e) (t.2, t.3) })

-- The two masks: bits 6:0, and bits 14:1.
pub of_the_mode : (w none place : ℕ) → Highest (bit_and w 0x7F) none place → highest_bit 0 7 none w ≡ place
of_the_mode w none place h = is_highest 0 w 7 none place (subst (λ (m : ℕ). Highest m none place) (and_high w 7 0) h)

pub of_the_version : (w none place : ℕ) → Highest (bit_and w 0x7FFE) none place → highest_bit 1 14 none w ≡ place
of_the_version w none place h = is_highest 1 w 14 none place (subst (λ (m : ℕ). Highest m none place) (and_high w 14 1) h)

-- The highest one bit is one of those that are asked, or none.
pub within : (low count none w : ℕ) → low ≤ none → none ≤ low + count → (low ≤ highest_bit low count none w) × (highest_bit low count none w ≤ low + count)
unfolding highest_bit
within low count none w l u = go count (omega arith)
  where
    either : (b : Bool) (n rest : ℕ) → n < count → (low ≤ rest) × (rest ≤ low + count) → (low ≤ cond b (low + n) rest) × (cond b (low + n) rest ≤ low + count)
    either true n rest h r = (omega arith, omega arith)
    either false n rest h r = r

    go : (n : ℕ) → n ≤ count → (low ≤ highest_bit low n none w) × (highest_bit low n none w ≤ low + count)
    go zero h = (l, u)
    go (suc n) h = either (bit (low + n) w) n (highest_bit low n none w) h (go n (omega arith))

pub mode_within : (block : List ℕ) → ultra_dma block ≤ no_mode
unfolding ultra_dma
mode_within block = by (bit 2 (word block 53))
  where
    by : (b : Bool) → cond b (highest_bit 0 7 no_mode (word block 88)) no_mode ≤ no_mode
    by true = (within 0 7 no_mode (word block 88) (omega arith) (omega arith)).1
    by false = omega arith

pub version_within : (block : List ℕ) → (1 ≤ major_version block) × (major_version block ≤ no_version)
unfolding major_version
version_within block = by (eqb (word block 80) 0xFFFF)
  where
    by : (b : Bool) → (1 ≤ cond b no_version (highest_bit 1 14 no_version (word block 80))) × (cond b no_version (highest_bit 1 14 no_version (word block 80)) ≤ no_version)
    by true = (omega arith, omega arith)
    by false = within 1 14 no_version (word block 80) (omega arith) (omega arith)
