-- `first_of`: no block passed is of the same drive.
use mathlib.Core.Path.{◌≡◌}
use mathlib.Core.Bool.{false}
use Prim.Native.Nat.{ℕ, ◌≤◌, ◌<◌, ◌-◌}
use Rattle.drive.specs.Drive.{same_drive}
use Rattle.roll.specs.Roll.{block_at}
use Rattle.roll.proofs.first_of.Given as goal

abbrev pub invariant-loop-j : goal.invariant-loop-j
invariant-loop-j l = (l.j ≤ l.i) × ((k : ℕ) → k < l.j → same_drive (block_at l.bytes k) (block_at l.bytes l.i) ≡ false)

abbrev pub decreases-loop-j : goal.decreases-loop-j
decreases-loop-j l = l.i - l.j
