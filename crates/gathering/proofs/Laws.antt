-- Laws of a run of intakes: what the loops over it say, and how many bytes it gathers.
use mathlib.Core.Path.{◌≡◌, refl, ap, ◌∙◌}
use mathlib.Core.Bool.{Bool, true, false, cond, ◌||◌, not}
use mathlib.Core.List.{List, [], ◌∷◌, ◌++◌}
use Prim.Native.Nat.{ℕ, zero, suc, ◌+◌, ◌*◌, ◌/◌, ◌≤◌, ◌<◌}
use native.Mathlib.Nat.{zero-add}
use native.Mathlib.Omega.{arith}
use lib.Dec.{eqb, ltb}
use lib.ListN.{length, get_or, take, drop, length-take, length-drop, length-append, drop_of_length-le}
use lib.Seq.{drop-cons, drop-drop, take_at, drop_at}
use borrow.Author.Tests.{eqb-true, lt-ltb, le-ltb, not-false}
use Rattle.rules.proofs.First.{neither}
use Rattle.room.specs.Room.{written, Wrote}
use Rattle.room.proofs.Laws.{written_append, length_written}
use Rattle.checksum.specs.Checksum.{damaged, damaged_by, any_damaged}
use Rattle.intake.specs.Intake.{wrong_intake, complete, block_of}
use Rattle.roll.specs.Roll as Roll
use Rattle.roll.specs.Roll.{blocks_in}
use Rattle.gathering.specs.Gathering.{claims_too_much, gathered, wrong_run, gather_refusal, gather_outcome, given, gather_of}
use Rattle.gathering.specs.Helpers.{complete_in, damaged_in}

-- Each complete intake gives 512 bytes.
pub length_gathered : (haves stores : List ℕ) → length stores ≡ 512 * length haves → length (gathered haves stores) ≡ 512 * complete_in haves
unfolding gathered complete_in
length_gathered [] stores h = refl
length_gathered (have ∷ haves) stores h =
    length-append (block_of have (take 512 stores)) (gathered haves (drop 512 stores))
    ∙ one (complete have) (length_gathered haves (drop 512 stores) (rw length-drop (omega (arith, h))))
  where
    one : (b : Bool) → length (gathered haves (drop 512 stores)) ≡ 512 * complete_in haves
        → length (cond b (take 512 stores) []) + length (gathered haves (drop 512 stores)) ≡ 512 * (cond b 1 0 + complete_in haves)
    one true e = rw length-take (omega (arith, e, h))
    one false e = omega (arith, e)

pub block_at_most : (have : ℕ) (store : List ℕ) → length store ≡ 512 → length (block_of have store) ≤ 512
block_at_most have store h = by (complete have)
  where
    by : (b : Bool) → length (cond b store []) ≤ 512
    by true = omega (arith, h)
    by false = omega arith

-- A block in front of others, and no block.
a_block : (block rest : List ℕ) (n : ℕ) → length block ≡ 512 → any_damaged (blocks_in (1 + n) (block ++ rest)) ≡ (damaged block || any_damaged (blocks_in n rest))
unfolding blocks_in any_damaged
a_block block rest n h =
    let e : 1 + n ≡ suc n = omega arith in
    rw (e, take_at block rest 512 h, drop_at block rest 512 h)

none : damaged [] ≡ false
unfolding damaged damaged_by
none = refl

-- One of the blocks that are gathered is damaged exactly where some intake's is: an intake that is not complete gives none.
pub damaged_gathered : (haves stores : List ℕ) → length stores ≡ 512 * length haves → any_damaged (blocks_in (complete_in haves) (gathered haves stores)) ≡ damaged_in haves stores
unfolding gathered complete_in damaged_in blocks_in any_damaged
damaged_gathered [] stores h = refl
damaged_gathered (have ∷ haves) stores h =
    one (complete have) (damaged_gathered haves (drop 512 stores) (rw length-drop (omega (arith, h))))
  where
    first : length (take 512 stores) ≡ 512
    first = rw length-take (omega (arith, h))

    one : (b : Bool) → any_damaged (blocks_in (complete_in haves) (gathered haves (drop 512 stores))) ≡ damaged_in haves (drop 512 stores)
        → any_damaged (blocks_in (cond b 1 0 + complete_in haves) (cond b (take 512 stores) [] ++ gathered haves (drop 512 stores))) ≡ (damaged (cond b (take 512 stores) []) || damaged_in haves (drop 512 stores))
    one true e = a_block (take 512 stores) (gathered haves (drop 512 stores)) (complete_in haves) first ∙ ap (λ (t : Bool). damaged (take 512 stores) || t) e
    one false e = rw (zero-add (complete_in haves), none) e

-- Loops over a run, before turn i: what is left takes what was found to where it is to be.
pub record Looking (haves : List ℕ) (i : ℕ) : Type 0 where
  pub upto : i ≤ length haves
  pub left : claims_too_much (drop i haves) ≡ claims_too_much haves

pub look_on : {haves : List ℕ} {i : ℕ} → Looking haves i → i < length haves → (ltb 512 (get_or haves i 0) || claims_too_much (drop (i + 1) haves)) ≡ claims_too_much haves
unfolding claims_too_much
look_on {haves} {i} l h =
    let k : i + 1 ≡ suc i = omega arith in
    rw k (rw (drop-cons haves i 0 h) at l.left)

pub none_left : {haves : List ℕ} {i : ℕ} → Looking haves i → length haves ≤ i → false ≡ claims_too_much haves
unfolding claims_too_much
none_left {haves} {i} l h = rw (drop_of_length-le haves {i = i} h) at l.left

-- The same of a damaged block.
pub record Asking (haves stores : List ℕ) (k : ℕ) : Type 0 where
  pub upto : k ≤ length haves
  pub left : damaged_in (drop k haves) (drop (512 * k) stores) ≡ damaged_in haves stores

pub ask_on : {haves stores : List ℕ} {k : ℕ} → Asking haves stores k → k < length haves → (damaged (block_of (get_or haves k 0) (take 512 (drop (512 * k) stores))) || damaged_in (drop (k + 1) haves) (drop (512 * (k + 1)) stores)) ≡ damaged_in haves stores
unfolding damaged_in
ask_on {haves} {stores} {k} a h =
    let n : k + 1 ≡ suc k = omega arith in
    let m : 512 * (k + 1) ≡ 512 * k + 512 = omega arith in
    rw (m, n) (rw (drop-cons haves k 0 h, drop-drop 512 (512 * k) stores) at a.left)

pub none_damaged : {haves stores : List ℕ} {k : ℕ} → Asking haves stores k → length haves ≤ k → false ≡ damaged_in haves stores
unfolding damaged_in
none_damaged {haves} {stores} {k} a h = rw (drop_of_length-le haves {i = k} h) at a.left

pub record Counting (haves : List ℕ) (count i : ℕ) : Type 0 where
  pub upto : i ≤ length haves
  pub small : count ≤ i
  pub left : count + complete_in (drop i haves) ≡ complete_in haves

pub begin_counting : (haves : List ℕ) → Counting haves 0 0
begin_counting haves = record { upto = omega arith; small = omega arith; left = omega arith }

pub count_on : {haves : List ℕ} {count i : ℕ} (v : ℕ) → Counting haves count i → i < length haves → v ≡ cond (complete (get_or haves i 0)) 1 0 → v ≤ 1 → Counting haves (count + v) (i + 1)
unfolding complete_in
count_on {haves} {count} {i} v c h e s =
    let k : i + 1 ≡ suc i = omega arith in
    let d : count + (cond (complete (get_or haves i 0)) 1 0 + complete_in (drop (suc i) haves)) ≡ complete_in haves = rw (drop-cons haves i 0 h) at c.left in
    record { upto = omega arith; small = omega (arith, c.small, s); left = rw (e, k) (omega (arith, d)) }

pub all_counted : {haves : List ℕ} {count i : ℕ} → Counting haves count i → length haves ≤ i → count ≡ complete_in haves
unfolding complete_in
all_counted {haves} {count} {i} c h =
    let d : count + 0 ≡ complete_in haves = rw (drop_of_length-le haves {i = i} h) at c.left in
    omega (arith, d)

pub record Gathering (haves stores before after : List ℕ) (at i : ℕ) : Type 0 where
  pub upto : i ≤ length haves
  pub small : at ≤ 512 * i
  pub same : length after ≡ length before
  pub left : written after at (gathered (drop i haves) (drop (512 * i) stores)) ≡ written before 0 (gathered haves stores)

pub begin_gathering : (haves stores room : List ℕ) → Gathering haves stores room room 0 0
begin_gathering haves stores room = record { upto = omega arith; small = omega arith; same = refl; left = refl }

module _ {haves stores before room : List ℕ} {at i : ℕ} (g : Gathering haves stores before room at i) where
  pub gather_on : {o : List ℕ} (block : List ℕ) → i < length haves → block ≡ block_of (get_or haves i 0) (take 512 (drop (512 * i) stores)) → length block ≤ 512 → Wrote room at block o → Gathering haves stores before o (at + length block) (i + 1)
  unfolding gathered
  gather_on {o} block h e s w =
      let k : i + 1 ≡ suc i = omega arith in
      let m : 512 * (i + 1) ≡ 512 * i + 512 = omega arith in
      let d = rw (drop-cons haves i 0 h, ← e, drop-drop 512 (512 * i) stores, ← written_append room at block (gathered (drop (suc i) haves) (drop (512 * i + 512) stores)), ← w.leaves) at g.left in
      record {
        upto = omega arith;
        small = omega (arith, g.small, s);
        same = ap length w.leaves ∙ length_written room at block ∙ g.same;
        left = rw (m, k) d;
      }

  pub all_gathered : length haves ≤ i → Wrote before 0 (gathered haves stores) room
  unfolding gathered
  all_gathered h = record { leaves = rw (drop_of_length-le haves {i = i} h) at g.left }

-- A run that is not refused has 512 bytes of store for each intake.
pub fits : (haves : List ℕ) (stores : ℕ) → wrong_run haves stores ≡ false → stores ≡ 512 * length haves
fits haves stores e = eqb-true _ _ (not-false _ (neither (not (eqb stores (512 * length haves))) (claims_too_much haves) e).0)

-- Over a store of that size, none of its intakes is refused.
pub each_right : (haves : List ℕ) (stores i : ℕ) → wrong_run haves stores ≡ false → i < length haves → wrong_intake (get_or haves i 0) 512 ≡ false
unfolding claims_too_much
each_right haves stores i e h = among haves i (neither (not (eqb stores (512 * length haves))) (claims_too_much haves) e).1 h
  where
    among : (haves : List ℕ) (i : ℕ) → claims_too_much haves ≡ false → i < length haves → ltb 512 (get_or haves i 0) ≡ false
    among (have ∷ haves) zero e h = (neither (ltb 512 have) (claims_too_much haves) e).0
    among (have ∷ haves) (suc i) e h = among haves i (neither (ltb 512 have) (claims_too_much haves) e).1 (omega arith)
    among [] i e h = absurd (omega arith)

-- Gathering, by what is found of the run.
module _ (haves stores room : List ℕ) where
  pub gather_refused : wrong_run haves (length stores) ≡ true → gather_of haves stores room ≡ gather_outcome (given 1 0) room
  unfolding gather_of gather_refusal
  gather_refused t = rw t

  module _ (right : wrong_run haves (length stores) ≡ false) where
    pub size : length (gathered haves stores) ≡ 512 * complete_in haves
    size = length_gathered haves stores (fits haves (length stores) right)

    damage : any_damaged (Roll.blocks (gathered haves stores)) ≡ damaged_in haves stores
    damage =
        let count : 512 * complete_in haves / 512 ≡ complete_in haves = omega arith in
        rw (size, count) (damaged_gathered haves stores (fits haves (length stores) right))

    pub gather_damaged : damaged_in haves stores ≡ true → gather_of haves stores room ≡ gather_outcome (given 18 0) room
    unfolding gather_of gather_refusal
    gather_damaged t = rw (right, damage, t)

    module _ (passes : damaged_in haves stores ≡ false) where
      pub gather_short : length room < 512 * complete_in haves → gather_of haves stores room ≡ gather_outcome (given 8 0) room
      unfolding gather_of gather_refusal
      gather_short l = rw (right, damage, passes, size, lt-ltb _ _ l)

      pub gather_served : 512 * complete_in haves ≤ length room → gather_of haves stores room ≡ gather_outcome (given 0 (512 * complete_in haves)) (written room 0 (gathered haves stores))
      unfolding gather_of gather_refusal
      gather_served l = rw (right, damage, passes, size, le-ltb _ _ l)
