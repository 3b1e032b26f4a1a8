-- `count_complete`: before turn i the complete ones of the first i are counted.
use Rattle.gathering.proofs.Laws.{count_on, all_counted}
use Rattle.gathering.proofs.count_complete.Goals as goal

pub loop-i-preserved : goal.loop-i-preserved
loop-i-preserved c = count_on _ c.loop-i.invariant c.loop-i-test.true c.counts-count.ensures.value c.counts-count.ensures.small

pub returns-clause-count : goal.returns-clause-count
returns-clause-count c = all_counted c.loop-i.invariant c.loop-i-test.false
