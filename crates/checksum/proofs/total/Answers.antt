-- `total`: before turn i the first i bytes are added up.
use Rattle.checksum.proofs.Laws.{more, all_summed}
use Rattle.checksum.proofs.total.Goals as goal

pub loop-i-preserved : goal.loop-i-preserved
loop-i-preserved c = more _ c.loop-i.invariant c.loop-i-test.true c.wrapping_add_u8-sum.ensures.value

pub returns : goal.returns
returns c = all_summed c.loop-i.invariant c.loop-i-test.false
