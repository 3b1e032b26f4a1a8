-- `total`: before turn i the first i counts are added up.
use Prim.Native.Nat.{◌-◌}
use lib.ListN.{length}
use Rattle.tally.proofs.Laws.{Adding}
use Rattle.tally.proofs.total.Given as goal

abbrev pub invariant-loop-i : goal.invariant-loop-i
invariant-loop-i l = Adding l.counts l.sum l.i

abbrev pub decreases-loop-i : goal.decreases-loop-i
decreases-loop-i l = length l.counts - l.i
