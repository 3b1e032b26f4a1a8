-- `rising`: every code passed is above the one before it.
use mathlib.Core.Path.{◌≡◌, sym}
use Prim.Native.Nat.{suc, ◌-◌}
use native.Mathlib.Omega.{arith}
use Rattle.packet.proofs.Laws.{rises, falls_at}
use Rattle.packet.proofs.rising.Goals as goal

pub returns-then-codes-i : goal.returns-then-codes-i
returns-then-codes-i c =
    let i = c.loop-i.i in
    let one : suc (i - 1) ≡ i = omega arith in
    sym (falls_at c.args.codes.now (i - 1) (omega arith) (rw one c.if-codes-i.true))

pub returns : goal.returns
returns c =
    sym (rises c.args.codes.now (λ k h. let one : suc k - 1 ≡ k = omega arith in rw one at (c.loop-i.invariant.1 (suc k) (omega arith) (omega arith))))
