-- `any_damaged`: no block passed is damaged.
use mathlib.Core.Path.{◌≡◌}
use mathlib.Core.Bool.{false}
use Prim.Native.Nat.{◌≤◌, ◌-◌}
use Rattle.checksum.specs.Checksum.{any_damaged}
use Rattle.roll.specs.Roll.{blocks_in}
use Rattle.roll.proofs.any_damaged.Given as goal

abbrev pub invariant-loop-asked : goal.invariant-loop-asked
invariant-loop-asked l = (l.asked ≤ l.count) × (any_damaged (blocks_in l.asked l.bytes) ≡ false)

abbrev pub decreases-loop-asked : goal.decreases-loop-asked
decreases-loop-asked l = l.count - l.asked
