-- `rising`: every code passed is above the one before it.
use Prim.Native.Nat.{ℕ, ◌≤◌, ◌<◌, ◌-◌}
use lib.ListN.{length, get_or}
use Rattle.packet.proofs.rising.Given as goal

abbrev pub invariant-loop-i : goal.invariant-loop-i
invariant-loop-i l = (1 ≤ l.i) × ((k : ℕ) → k < l.i → 1 ≤ k → get_or l.codes (k - 1) 0 < get_or l.codes k 0)

abbrev pub decreases-loop-i : goal.decreases-loop-i
decreases-loop-i l = length l.codes - l.i
