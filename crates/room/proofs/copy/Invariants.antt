-- `copy`: before turn i the first i bytes stand in the room, and what is left to write takes the room to where it is to be.
use Prim.Native.Nat.{◌-◌, ◌≤◌}
use Rattle.room.proofs.Laws.{Writing}
use Rattle.room.proofs.copy.Given as goal

abbrev pub invariant-loop-i : goal.invariant-loop-i
invariant-loop-i l = Writing l.initial.room l.at l.bytes l.room l.i × (l.i ≤ l.n)

abbrev pub decreases-loop-i : goal.decreases-loop-i
decreases-loop-i l = l.n - l.i
