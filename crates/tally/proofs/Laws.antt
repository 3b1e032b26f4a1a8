-- Laws of counts and of their sums.
use mathlib.Core.Path.{◌≡◌, refl, sym, ◌∙◌}
use mathlib.Core.Bool.{false, not, ◌||◌}
use mathlib.Core.List.{List, [], ◌∷◌}
use Prim.Native.Nat.{ℕ, zero, suc, ◌+◌, ◌*◌, ◌≤◌, ◌<◌}
use native.Mathlib.Omega.{arith}
use lib.Dec.{eqb}
use lib.ListN.{length, get_or, drop, drop_of_length-le}
use lib.Seq.{drop-cons}
use borrow.Author.Tests.{eqb-true, eqb-false, not-false}
use Rattle.rules.proofs.First.{neither, silent}
use Rattle.checksum.specs.Checksum.{sum_of}
use Rattle.tally.specs.declared.Census.{Census}
use Rattle.tally.specs.Census.{uneven, closed, checks, refusal_of, raised}

-- No count is more than their sum.
pub at_most : (counts : List ℕ) (k : ℕ) → get_or counts k 0 ≤ sum_of counts
unfolding sum_of
at_most [] k = omega arith
at_most (n ∷ counts) zero = omega arith
at_most (n ∷ counts) (suc k) = omega (arith, at_most counts k)

-- One more at a place is one more in the sum.
pub sum_raised : (counts : List ℕ) (k : ℕ) → k < length counts → sum_of (raised counts k) ≡ sum_of counts + 1
unfolding sum_of
sum_raised [] k h = absurd (omega (arith, h))
sum_raised (n ∷ counts) zero h = omega arith
sum_raised (n ∷ counts) (suc k) h = omega (arith, sum_raised counts k (omega (arith, h)))

-- A census that a block can be counted in: each grouping sums to fewer than 65,535 blocks.
pub record Open (c : Census) : Type 0 where
  pub not_full : c.blocks ≡ 65535 → ⊥
  pub names : c.named + c.unnamed ≡ c.blocks
  pub modes : sum_of c.udma ≡ c.blocks
  pub versions : sum_of c.version ≡ c.blocks

open_census : (c : Census) → closed c ≡ false → Open c
unfolding uneven
open_census c e =
    let outer = neither (eqb c.blocks 65535) (uneven c) e in
    let two = neither (not (eqb (c.named + c.unnamed) c.blocks) || not (eqb (sum_of c.udma) c.blocks)) (not (eqb (sum_of c.version) c.blocks)) outer.1 in
    let one = neither (not (eqb (c.named + c.unnamed) c.blocks)) (not (eqb (sum_of c.udma) c.blocks)) two.0 in
    record {
      not_full = eqb-false _ _ outer.0;
      names = eqb-true _ _ (not-false _ one.0);
      modes = eqb-true _ _ (not-false _ one.1);
      versions = eqb-true _ _ (not-false _ two.1);
    }

-- A block that no check refuses has 512 bytes, and the census is one that it can be counted in.
pub accepted : {number : ℕ} (c : Census) (block : List ℕ) → number ≡ refusal_of c block → number ≡ 0 → (length block ≡ 512) × Open c
unfolding refusal_of
accepted c block e z =
    let quiet = silent (checks c block) refl (sym e ∙ z) in
    (eqb-true _ _ (not-false _ quiet.0), open_census c quiet.1.0)

-- A loop that adds counts up, before its turn i: what is left to add takes the sum to where it is to be.
pub record Adding (counts : List ℕ) (sum i : ℕ) : Type 0 where
  pub upto : i ≤ length counts
  pub left : sum + sum_of (drop i counts) ≡ sum_of counts
  pub small : sum ≤ 65535 * i

pub none_yet : (counts : List ℕ) → Adding counts 0 0
none_yet counts = record { upto = omega arith; left = omega arith; small = omega arith }

pub more : {counts : List ℕ} {sum i : ℕ} (v : ℕ) → Adding counts sum i → i < length counts → v < 65536 → v ≡ get_or counts i 0 → Adding counts (sum + v) (i + 1)
unfolding sum_of
more {counts} {sum} {i} v s h f e =
    let k : i + 1 ≡ suc i = omega arith in
    let d : sum + (get_or counts i 0 + sum_of (drop (suc i) counts)) ≡ sum_of counts = rw (drop-cons counts i 0 h) at s.left in
    record { upto = omega arith; left = rw k (omega (arith, d, e)); small = omega (arith, s.small, f) }

pub all_added : {counts : List ℕ} {sum i : ℕ} → Adding counts sum i → length counts ≤ i → sum ≡ sum_of counts
unfolding sum_of
all_added {counts} {sum} {i} s h =
    let d : sum + 0 ≡ sum_of counts = rw (drop_of_length-le counts {i = i} h) at s.left in
    omega (arith, d)
