-- `take`: each turn uses some of what is left.
use Rattle.std.proofs.Common.{length}
use Rattle.census.proofs.Counted.take.Given as goal

abbrev pub decreases-loop-rest : goal.decreases-loop-rest
decreases-loop-rest l = length l.rest
