-- `others_end`: before turn k the fields before `at` are read.
use Prim.Native.Nat.{◌-◌}
use Rattle.capture.proofs.Laws.{Walking}
use Rattle.capture.proofs.others_end.Given as goal

abbrev pub invariant-loop-k : goal.invariant-loop-k
invariant-loop-k l = Walking l.capture l.at l.k

abbrev pub decreases-loop-k : goal.decreases-loop-k
decreases-loop-k l = 4 - l.k
