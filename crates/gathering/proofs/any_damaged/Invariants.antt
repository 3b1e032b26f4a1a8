-- `any_damaged`: no intake passed has a damaged block.
use Prim.Native.Nat.{◌-◌}
use lib.ListN.{length}
use Rattle.gathering.proofs.Laws.{Asking}
use Rattle.gathering.proofs.any_damaged.Given as goal

abbrev pub invariant-loop-k : goal.invariant-loop-k
invariant-loop-k l = Asking l.haves l.stores l.k

abbrev pub decreases-loop-k : goal.decreases-loop-k
decreases-loop-k l = length l.haves - l.k
