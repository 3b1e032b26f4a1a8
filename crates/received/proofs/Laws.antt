-- Laws of the roll of a run of intakes: what it comes to, by what is found of the run.
use mathlib.Core.Path.{◌≡◌, refl}
use mathlib.Core.Bool.{Bool, true, false, cond}
use mathlib.Core.List.{List}
use Prim.Native.Nat.{ℕ, ◌*◌, ◌/◌, ◌%◌, ◌≤◌, ◌<◌}
use native.Mathlib.Omega.{arith}
use lib.Dec.{ltb}
use lib.ListN.{length}
use borrow.Author.Tests.{lt-ltb, le-ltb, ltb-true, ltb-false}
use Rattle.roll.specs.Roll as Roll
use Rattle.gathering.specs.Gathering.{gathered, wrong_run}
use Rattle.gathering.specs.Helpers.{complete_in, damaged_in}
use Rattle.gathering.proofs.Laws.{length_gathered, damaged_gathered, fits, size}
use Rattle.received.specs.Received.{refusal_of, Outcome, outcome, rolled, roll_of}

-- The roll refuses what is gathered exactly where there are too many blocks, too few rows for them, or a damaged one.
pub roll_refuses : (haves stores : List ℕ) (rows : ℕ) → length stores ≡ 512 * length haves → Roll.refusal_of (gathered haves stores) rows ≡ cond (ltb 64 (complete_in haves)) 1 (cond (ltb rows (complete_in haves)) 1 (cond (damaged_in haves stores) 18 0))
unfolding Roll.refusal_of
roll_refuses haves stores rows h =
    let n = complete_in haves in
    let l = length_gathered haves stores h in
    let whole : 512 * n % 512 ≡ 0 = omega arith in
    let count : 512 * n / 512 ≡ n = omega arith in
    rw (l, whole, count, many n, damaged_gathered haves stores h)
  where
    many : (n : ℕ) → ltb 32768 (512 * n) ≡ ltb 64 n
    many n = by (ltb 64 n) refl
      where
        by : (b : Bool) → ltb 64 n ≡ b → ltb 32768 (512 * n) ≡ b
        by true e = lt-ltb 32768 (512 * n) (omega (arith, ltb-true 64 n e))
        by false e = le-ltb 32768 (512 * n) (omega (arith, ltb-false 64 n e))

-- The roll of a run of intakes, by what is found of it.
module _ (haves stores room rows : List ℕ) where
  abbrev pub refusing : ℕ → Outcome
  refusing number = outcome (record { number = number; blocks = 0; drives = 0 }) room rows

  pub roll_refused : wrong_run haves (length stores) ≡ true → roll_of haves stores room rows ≡ refusing 1
  unfolding roll_of refusal_of
  roll_refused t = rw t

  module _ (right : wrong_run haves (length stores) ≡ false) where
    by_roll : Roll.refusal_of (gathered haves stores) (length rows) ≡ cond (ltb 64 (complete_in haves)) 1 (cond (ltb (length rows) (complete_in haves)) 1 (cond (damaged_in haves stores) 18 0))
    by_roll = roll_refuses haves stores (length rows) (fits haves (length stores) right)

    pub too_many : ltb 64 (complete_in haves) ≡ true → roll_of haves stores room rows ≡ refusing 1
    unfolding roll_of refusal_of
    too_many t = rw (right, by_roll, t)

    module _ (few : ltb 64 (complete_in haves) ≡ false) where
      pub too_few_rows : ltb (length rows) (complete_in haves) ≡ true → roll_of haves stores room rows ≡ refusing 1
      unfolding roll_of refusal_of
      too_few_rows t = rw (right, by_roll, few, t)

      module _ (enough : ltb (length rows) (complete_in haves) ≡ false) where
        pub roll_damaged : damaged_in haves stores ≡ true → roll_of haves stores room rows ≡ refusing 18
        unfolding roll_of refusal_of
        roll_damaged t = rw (right, by_roll, few, enough, t)

        module _ (passes : damaged_in haves stores ≡ false) where
          pub roll_short : length room < 512 * complete_in haves → roll_of haves stores room rows ≡ refusing 8
          unfolding roll_of refusal_of
          roll_short l = rw (right, by_roll, few, enough, passes, size haves stores room right, lt-ltb _ _ l)

          pub roll_served : 512 * complete_in haves ≤ length room → roll_of haves stores room rows ≡ rolled (gathered haves stores) room rows
          unfolding roll_of refusal_of
          roll_served l = rw (right, by_roll, few, enough, passes, size haves stores room right, le-ltb _ _ l)
