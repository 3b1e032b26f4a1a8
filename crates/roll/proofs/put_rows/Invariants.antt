-- `put_rows`: the rows of the blocks passed, and how many drives they are.
use mathlib.Core.Path.{◌≡◌}
use Prim.Native.Nat.{◌≤◌, ◌-◌}
use lib.ListN.{length}
use Rattle.roll.specs.Helpers.{Rolled}
use Rattle.roll.proofs.put_rows.Given as goal

abbrev pub invariant-loop-i : goal.invariant-loop-i
invariant-loop-i l = (l.i ≤ l.count) × (length l.rows ≡ length l.initial.rows) × Rolled l.bytes l.i l.initial.rows l.rows l.drives

abbrev pub decreases-loop-i : goal.decreases-loop-i
decreases-loop-i l = l.count - l.i
