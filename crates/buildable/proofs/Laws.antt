-- Laws that the functions' proofs share: tests that all hold, and how large the fields of an order are that can be built.
use mathlib.Core.Path.{◌≡◌, refl, sym, ◌∙◌}
use mathlib.Core.Bool.{Bool, true, false, cond, ◌||◌, and-eq-true_iff, true≢false}
use mathlib.Core.Logic.{◌⊎◌, inl, inr, ⊎_elim}
use mathlib.Core.List.{List, [], ◌∷◌}
use Prim.Native.Nat.{ℕ, ◌*◌, ◌<◌}
use native.Mathlib.Omega.{arith}
use lib.Dec.{eqb, ltb}
use borrow.Author.Tests.{eqb-true, ltb-true, ltb-false, ne_eqb}
use Rattle.rules.specs.Bits.{flag}
use Rattle.passthrough_order.specs.declared.Order.{Order}
use Rattle.passthrough_order.specs.Order.{without_data, with_data, reset}
use Rattle.buildable.specs.Fields.{off_line_for, multiple_count_for, length_bits}
use Rattle.buildable.specs.Buildable.{every, of_command, of_reset, tests, buildable}

-- Each test of a list holds.
abbrev pub Each : List Bool → Type 0
Each [] = Unit {0}
Each (test ∷ tests) = (test ≡ true) × Each tests

-- So where every test of a list holds, each does; and the other way round.
pub each : (tests : List Bool) → every tests ≡ true → Each tests
each [] e = tt
each (test ∷ tests) e =
    let both = (and-eq-true_iff test (every tests)).0 e in
    (both.0, each tests both.1)

pub every_of : (tests : List Bool) → Each tests → every tests ≡ true
every_of [] h = refl
every_of (test ∷ tests) h = rw h.0 (every_of tests h.1)

-- One of two tests holds.
pub one_of : (a b : Bool) → (a || b) ≡ true → (a ≡ true) ⊎ (b ≡ true)
one_of true b e = inl refl
one_of false b e = inr e

-- A protocol that is served has a number below 12.
served_low : (p : ℕ) → (without_data p || with_data p) ≡ true → p < 12
served_low p e = by (ltb p 12) refl
  where
    by : (b : Bool) → ltb p 12 ≡ b → p < 12
    by true t = ltb-true p 12 t
    by false t =
        let h = ltb-false p 12 t in
        absurd
        (true≢false
        (sym e
        ∙ simp (ne_eqb p 3 (λ q. omega arith), ne_eqb p 4 (λ q. omega arith), ne_eqb p 5 (λ q. omega arith), ne_eqb p 6 (λ q. omega arith), ne_eqb p 8 (λ q. omega arith), ne_eqb p 9 (λ q. omega arith), ne_eqb p 10 (λ q. omega arith), ne_eqb p 11 (λ q. omega arith))))

reset_low : (p : ℕ) → reset p ≡ true → p < 12
reset_low p e = ⊎_elim (λ t. rw (eqb-true p 0 t) (omega arith)) (λ t. rw (eqb-true p 1 t) (omega arith)) (one_of (eqb p 0) (eqb p 1) e)

-- The fields of an order that can be built have the width of their places in a command.
pub record Small (o : Order) : Type 0 where
  pub off_line_is : off_line_for o.quiet_seconds < 4
  pub multiple_count_is : multiple_count_for o.sectors_per_block < 8
  pub protocol : o.protocol < 12
  pub ck_cond_is : o.ck_cond < 2
  pub extend : o.extend < 2

pub small : (o : Order) → buildable o ≡ true → Small o
unfolding buildable
small o e =
    let t = each (tests o) e in
    by (reset o.protocol) refl t.1.0 t.1.1.0
  where
    by : (b : Bool) → reset o.protocol ≡ b → ltb (off_line_for o.quiet_seconds) 4 ≡ true → cond b (every (of_reset o)) (every (of_command o)) ≡ true → Small o
    by true r q h =
        let t = each (of_reset o) h in
        let s = t.1.1.1.1.1.1 in
        record {
          off_line_is = ltb-true _ _ q;
          multiple_count_is = rw (eqb-true o.sectors_per_block 1 s.0) (omega arith);
          protocol = reset_low o.protocol r;
          ck_cond_is = rw (eqb-true o.ck_cond 0 s.1.1.1.0) (omega arith);
          extend = rw (eqb-true o.extend 0 s.1.1.1.1.0) (omega arith);
        }
    by false r q h =
        let t = each (of_command o) h in
        record {
          off_line_is = ltb-true _ _ q;
          multiple_count_is = ltb-true _ _ t.1.1.1.1.0;
          protocol = served_low o.protocol t.0;
          ck_cond_is = ltb-true _ _ t.1.0;
          extend = ltb-true _ _ t.1.1.0;
        }

-- BYTE_BLOCK and T_LENGTH are three bits.
pub length_bits_low : (length count features : ℕ) → length_bits length count features < 8
length_bits_low length count features = below (eqb length 0) 0 _ (omega arith) (below (eqb length (512 * count)) 6 _ (omega arith) (below (eqb length count) 2 _ (omega arith) (below (eqb length (512 * features)) 5 _ (omega arith) (below (eqb length features) 1 _ (omega arith) (omega arith)))))
  where
    below : (b : Bool) (n rest : ℕ) → n < 8 → rest < 8 → cond b n rest < 8
    below true n rest h r = h
    below false n rest h r = r

pub flag_low : (b : Bool) → flag b < 2
flag_low true = omega arith
flag_low false = omega arith
