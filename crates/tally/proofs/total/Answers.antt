-- `total`: before turn i the first i counts are added up.
use native.Mathlib.Omega.{arith}
use Rattle.tally.proofs.Laws.{more, all_added}
use Rattle.tally.proofs.total.Goals as goal

pub loop-i-preserved : goal.loop-i-preserved
loop-i-preserved c =
    let w = c.loop-i in
    let count = (c.shared_slice_known-in-loop-i-1.given w.i).fits in
    more c.wide-sum.result w.invariant c.loop-i-test.true (omega (arith, c.wide-sum.ensures, count)) c.wide-sum.ensures

pub returns : goal.returns
returns c = all_added c.loop-i.invariant c.loop-i-test.false
