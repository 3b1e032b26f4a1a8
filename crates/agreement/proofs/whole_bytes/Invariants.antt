-- `whole_bytes`: too short, or four bytes at a time.
use Prim.Native.Nat.{◌-◌}
use lib.ListN.{length}
use Rattle.agreement.proofs.Laws.{ByFours}
use Rattle.agreement.proofs.whole_bytes.Given as goal

abbrev pub invariant-loop-i : goal.invariant-loop-i
invariant-loop-i l = ByFours l.run l.at (length l.piece) l.piece l.i

abbrev pub decreases-loop-i : goal.decreases-loop-i
decreases-loop-i l = length l.piece - l.i
