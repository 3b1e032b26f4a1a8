-- `some_bit`: every byte passed is zero.
use mathlib.Core.Path.{sym}
use native.Mathlib.Omega.{arith}
use Rattle.identify.proofs.Names.{no_bit, some_bit_at}
use Rattle.identify.proofs.some_bit.Goals as goal

pub returns-then-bytes-i-ne0 : goal.returns-then-bytes-i-ne0
returns-then-bytes-i-ne0 c =
    sym (some_bit_at c.args.bytes.now c.loop-i.i c.loop-i-test.true c.if-bytes-i-ne0.true)

pub returns : goal.returns
returns c =
    sym (no_bit c.args.bytes.now (λ k h. c.loop-i.invariant.1 k (omega arith)))
