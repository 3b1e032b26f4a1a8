-- `store`: four bytes at a time, and the slice ends behind the last four.
use mathlib.Core.Path.{◌≡◌}
use Prim.Native.Nat.{◌-◌, ◌%◌}
use lib.ListN.{length}
use Rattle.room.proofs.Laws.{Writing}
use Rattle.room.proofs.store.Given as goal

abbrev pub invariant-loop-i : goal.invariant-loop-i
invariant-loop-i l = Writing l.initial.room l.at l.bytes l.room l.i × (l.i % 4 ≡ 0)

abbrev pub decreases-loop-i : goal.decreases-loop-i
decreases-loop-i l = length l.bytes - l.i
