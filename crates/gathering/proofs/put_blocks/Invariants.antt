-- `put_blocks`: before turn i the blocks of the first i intakes stand in the room.
use Prim.Native.Nat.{◌-◌}
use lib.ListN.{length}
use Rattle.gathering.proofs.Laws.{Gathering}
use Rattle.gathering.proofs.put_blocks.Given as goal

abbrev pub invariant-loop-i : goal.invariant-loop-i
invariant-loop-i l = Gathering l.haves l.stores l.initial.room l.room l.at l.i

abbrev pub decreases-loop-i : goal.decreases-loop-i
decreases-loop-i l = length l.haves - l.i
