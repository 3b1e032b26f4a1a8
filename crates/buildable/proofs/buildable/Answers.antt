-- `buildable`: each test in its turn.
use mathlib.Core.Path.{◌≡◌, sym, ◌∙◌}
use mathlib.Core.Bool.{true, false}
use Prim.Native.Nat.{ℕ, ◌≤◌, ◌<◌}
use native.Mathlib.Omega.{arith}
use lib.Dec.{eqb}
use borrow.Author.Tests.{lt-ltb, le-ltb, eq-eqb, ne_eqb}
use Rattle.buildable.proofs.InTurn.{refused_by, decided}
use Rattle.buildable.proofs.buildable.Goals as goal

-- Whether a number is zero.
none : (n : ℕ) → n ≤ 0 → eqb n 0 ≡ true
none n h = eq-eqb n 0 (omega arith)

some : (n : ℕ) → 0 < n → eqb n 0 ≡ false
some n h = ne_eqb n 0 (λ e. omega arith)

pub returns-then-off_line-ge4 : goal.returns-then-off_line-ge4
returns-then-off_line-ge4 c = refused_by _ 0 (le-ltb _ 4 (rw c.off_line.ensures at c.if-off_line-ge4.true))

pub returns-then-order-gt0 : goal.returns-then-order-gt0
returns-then-order-gt0 c = refused_by _ 1 (some c.args.order.auxiliary (omega arith))

pub returns-then-multiple_count-ge8 : goal.returns-then-multiple_count-ge8
returns-then-multiple_count-ge8 c = refused_by _ 2 (le-ltb _ 8 (rw c.multiple_count.ensures at c.if-multiple_count-ge8.true))

pub returns-then-order-ge2 : goal.returns-then-order-ge2
returns-then-order-ge2 c = refused_by _ 3 (le-ltb _ 2 c.if-order-ge2.true)

pub returns-then-order-ge2-2 : goal.returns-then-order-ge2-2
returns-then-order-ge2-2 c = refused_by _ 4 (le-ltb _ 2 c.if-order-ge2-2.true)

pub returns-then-not-protocol_fit : goal.returns-then-not-protocol_fit
returns-then-not-protocol_fit c = refused_by _ 5 (sym c.protocol_fit.ensures ∙ c.if-not-protocol_fit.true)

pub returns-then-order-eq1 : goal.returns-then-order-eq1
returns-then-order-eq1 c =
    rw (eq-eqb _ 1 c.if-order-eq1.true) at (decided c.args.order (lt-ltb _ 4 (rw c.off_line.ensures at c.if-off_line-ge4.false), (none _ c.if-order-gt0.false, (lt-ltb _ 8 (rw c.multiple_count.ensures at c.if-multiple_count-ge8.false), (lt-ltb _ 2 c.if-order-ge2.false, (lt-ltb _ 2 c.if-order-ge2-2.false, (sym c.protocol_fit.ensures ∙ c.if-not-protocol_fit.false, tt)))))))

pub returns : goal.returns
returns c =
    c.without_upper.ensures ∙ rw (ne_eqb _ 1 c.if-order-eq1.false) at (decided c.args.order (lt-ltb _ 4 (rw c.off_line.ensures at c.if-off_line-ge4.false), (none _ c.if-order-gt0.false, (lt-ltb _ 8 (rw c.multiple_count.ensures at c.if-multiple_count-ge8.false), (lt-ltb _ 2 c.if-order-ge2.false, (lt-ltb _ 2 c.if-order-ge2-2.false, (sym c.protocol_fit.ensures ∙ c.if-not-protocol_fit.false, tt)))))))
