-- `place`: every code passed is below 89h.
use Prim.Native.Nat.{◌-◌}
use lib.ListN.{length}
use Rattle.packet.proofs.Laws.{Low}
use Rattle.packet.proofs.place.Given as goal

abbrev pub invariant-loop-i : goal.invariant-loop-i
invariant-loop-i l = Low l.codes l.i

abbrev pub decreases-loop-i : goal.decreases-loop-i
decreases-loop-i l = length l.codes - l.i
