-- `no_zero`: no byte passed is zero.
use mathlib.Core.Path.{sym}
use native.Mathlib.Omega.{arith}
use Rattle.page83_reader.proofs.Zero.{all_nonzero, zero_at}
use Rattle.page83_reader.proofs.no_zero.Goals as goal

pub returns-then-bytes-i-eq0 : goal.returns-then-bytes-i-eq0
returns-then-bytes-i-eq0 c =
    sym (zero_at c.args.bytes.now c.loop-i.i c.loop-i-test.true c.if-bytes-i-eq0.true)

pub returns : goal.returns
returns c =
    sym (all_nonzero c.args.bytes.now (λ k h. c.loop-i.invariant.1 k (omega arith)))
