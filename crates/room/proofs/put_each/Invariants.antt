-- `put_each`: byte by byte.
use Prim.Native.Nat.{◌-◌}
use lib.ListN.{length}
use Rattle.room.proofs.Laws.{Writing}
use Rattle.room.proofs.put_each.Given as goal

abbrev pub invariant-loop-i : goal.invariant-loop-i
invariant-loop-i l = Writing l.initial.room l.at l.bytes l.room l.i

abbrev pub decreases-loop-i : goal.decreases-loop-i
decreases-loop-i l = length l.bytes - l.i
