-- `uneven`: each grouping's sum against the blocks.
use Rattle.tally.specs.Census.{uneven}
use Rattle.tally.proofs.uneven.Goals as goal

pub returns : goal.returns
unfolding uneven
returns c = rw (c.wide-blocks.ensures, c.wide.ensures, c.wide-2.ensures, c.total.ensures, c.total-2.ensures)
