-- `same_bytes`: every byte passed is the same in both.
use mathlib.Core.Path.{ap, sym}
use mathlib.Core.List.{List}
use Prim.Native.Nat.{ℕ}
use native.Mathlib.Omega.{arith}
use lib.ListN.{length, get_or}
use lib.Seq.{ext_get_or}
use Rattle.identify.proofs.Bytes.{equal_of, not_equal}
use Rattle.identify.proofs.same_bytes.Goals as goal

pub returns-then-a-b : goal.returns-then-a-b
returns-then-a-b c = sym (not_equal _ _ (λ e. c.if-a-b.true (ap length e)))

pub returns-then-a-i : goal.returns-then-a-i
returns-then-a-i c = sym (not_equal _ _ (λ e. c.if-a-i.true (ap (λ (l : List ℕ). get_or l c.loop-i.i 0) e)))

pub returns : goal.returns
returns c =
    let a = c.args in
    sym (equal_of (ext_get_or 0 a.a.now a.b.now c.if-a-b.false (λ k h. c.loop-i.invariant.1 k (omega arith))))
