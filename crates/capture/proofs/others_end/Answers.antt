-- `others_end`: before turn k the fields before `at` are read.
use Rattle.capture.proofs.Laws.{none_read, read_on, all_read, to_the_end}
use Rattle.capture.proofs.others_end.Goals as goal

pub loop-k-init : goal.loop-k-init
loop-k-init c = none_read _

pub loop-k-preserved : goal.loop-k-preserved
loop-k-preserved c =
    let t = rw to_the_end at c.taken-at.ensures.0 in
    rw t (read_on c.loop-k.invariant c.loop-k-test.true)

pub returns : goal.returns
returns c = (all_read c.loop-k.invariant c.loop-k-test.false, c.loop-k.invariant.upto)
