-- `claims_too_much`: no intake passed claims more.
use Prim.Native.Nat.{◌-◌}
use lib.ListN.{length}
use Rattle.gathering.proofs.Laws.{Looking}
use Rattle.gathering.proofs.claims_too_much.Given as goal

abbrev pub invariant-loop-i : goal.invariant-loop-i
invariant-loop-i l = Looking l.haves l.i

abbrev pub decreases-loop-i : goal.decreases-loop-i
decreases-loop-i l = length l.haves - l.i
