-- `buildable` asks the tests in an order of its own, and the same of a reset as of any other order: no order fares otherwise.
use mathlib.Core.Path.{◌≡◌, refl, sym, ◌∙◌}
use mathlib.Core.Bool.{Bool, true, false, cond, ◌&&◌, ◌||◌, and-true, and-false, and_comm, true≢false}
use mathlib.Core.Logic.{⊎_elim}
use mathlib.Core.List.{List, [], ◌∷◌}
use Prim.Native.Nat.{ℕ, zero, suc}
use lib.Dec.{eqb, ltb}
use lib.ListN.{get_or}
use borrow.Author.Tests.{eqb-true}
use Rattle.passthrough_order.specs.declared.Order.{Order}
use Rattle.passthrough_order.specs.Order.{without_data, with_data, reset}
use Rattle.buildable.specs.Fields.{off_line_for, multiple_count_for}
use Rattle.buildable.specs.Buildable.{every, without_upper, data_fit, of_reset, buildable}
use Rattle.buildable.specs.Helpers.{protocol_fit}
use Rattle.buildable.proofs.Laws.{Each, each, one_of}

-- Each test.
module _ (o : Order) where
  abbrev seconds : Bool
  seconds = ltb (off_line_for o.quiet_seconds) 4

  abbrev auxiliary : Bool
  auxiliary = eqb o.auxiliary 0

  abbrev sectors : Bool
  sectors = ltb (multiple_count_for o.sectors_per_block) 8

  abbrev condition : Bool
  condition = ltb o.ck_cond 2

  abbrev extended : Bool
  extended = ltb o.extend 2

  abbrev registers : Bool
  registers = eqb o.extend 1 || every (without_upper o)

abbrev in_turn : Order → List Bool
in_turn o =
    seconds o ∷ auxiliary o ∷ sectors o ∷ condition o ∷ extended o ∷ protocol_fit o ∷ registers o ∷ []

-- Data by their kind.
by_kind : (with without a b : Bool) → cond with a (cond without b false) ≡ ((without || with) && cond with a b)
by_kind true true a b = refl
by_kind true false a b = refl
by_kind false true a b = refl
by_kind false false a b = refl

-- The tests of a command in either order.
turned : (q a m k x s f u : Bool) → every (q ∷ a ∷ m ∷ k ∷ x ∷ (s && f) ∷ u ∷ []) ≡ every (a ∷ q ∷ every (s ∷ k ∷ x ∷ u ∷ m ∷ f ∷ []) ∷ [])
turned false a m k x s f u = simp and-false
turned true false m k x s f u = refl
turned true true false k x s f u = simp and-false
turned true true true false x s f u = simp and-false
turned true true true true false s f u = simp and-false
turned true true true true true false f u = refl
turned true true true true true true f u = simp (and-true, and_comm f u)

-- A reset that has nothing else passes the tests of a command.
beside_reset : (q a m k x r u : Bool) → (r ≡ true → every (m ∷ k ∷ x ∷ u ∷ []) ≡ true) → every (q ∷ a ∷ m ∷ k ∷ x ∷ r ∷ u ∷ []) ≡ every (a ∷ q ∷ r ∷ [])
beside_reset q a m k x true u h =
    let t = each (m ∷ k ∷ x ∷ u ∷ []) (h refl) in
    rw (t.0, t.1.0, t.1.1.0, t.1.1.1.0, and-true a, and-true q) (and_comm q a)
beside_reset q a m k x false u h = simp and-false

reset_passes : (o : Order) → every (of_reset o) ≡ true → every (sectors o ∷ condition o ∷ extended o ∷ registers o ∷ []) ≡ true
reset_passes o e =
    let t = each (of_reset o) e in
    let s = t.1.1.1.1.1.1 in
    rw (eqb-true o.sectors_per_block 1 s.0, eqb-true o.ck_cond 0 s.1.1.1.0, eqb-true o.extend 0 s.1.1.1.1.0, eqb-true o.features 0 t.1.0, eqb-true o.count 0 t.1.1.0, eqb-true o.lba_low 0 t.1.1.1.0, eqb-true o.lba_mid 0 t.1.1.1.1.0, eqb-true o.lba_high 0 t.1.1.1.1.1.0)

-- A reset has no data, and is not served without them.
reset_alone : (p : ℕ) → reset p ≡ true → (with_data p ≡ false) × (without_data p ≡ false)
reset_alone p e =
    ⊎_elim (λ t. rw (eqb-true p 0 t) (refl, refl)) (λ t. rw (eqb-true p 1 t) (refl, refl)) (one_of (eqb p 0) (eqb p 1) e)

by_reset : (o : Order) (b : Bool) → reset o.protocol ≡ b → every (in_turn o) ≡ buildable o
unfolding buildable
by_reset o true r =
    let alone = reset_alone o.protocol r in
    rw (r, alone.0, alone.1) (beside_reset (seconds o) (auxiliary o) (sectors o) (condition o) (extended o) (every (of_reset o)) (registers o) (reset_passes o))
by_reset o false r =
    rw (r, by_kind (with_data o.protocol) (without_data o.protocol))
    (turned (seconds o) (auxiliary o) (sectors o) (condition o) (extended o) (without_data o.protocol || with_data o.protocol) (data_fit o) (registers o))

in_turn_is : (o : Order) → every (in_turn o) ≡ buildable o
in_turn_is o = by_reset o (reset o.protocol) refl

-- So an order is refused by one test that fails, and where none before the last does, the last decides.
fails : (tests : List Bool) (k : ℕ) → get_or tests k true ≡ false → every tests ≡ false
fails [] k e = absurd (true≢false e)
fails (test ∷ tests) zero e = rw e
fails (test ∷ tests) (suc k) e = rw (fails tests k e, and-false)

pub refused_by : (o : Order) (k : ℕ) → get_or (in_turn o) k true ≡ false → false ≡ buildable o
refused_by o k e = sym (fails (in_turn o) k e) ∙ in_turn_is o

pub decided : (o : Order) → Each (seconds o ∷ auxiliary o ∷ sectors o ∷ condition o ∷ extended o ∷ protocol_fit o ∷ []) → registers o ≡ buildable o
decided o t = rw (← in_turn_is o, t.0, t.1.0, t.1.1.0, t.1.1.1.0, t.1.1.1.1.0, t.1.1.1.1.1.0, and-true (registers o))
