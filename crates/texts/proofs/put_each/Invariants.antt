-- `put_each`: byte by byte.
use mathlib.Core.List.{map}
use Prim.Native.Nat.{◌-◌}
use lib.ListN.{length}
use Rattle.room.proofs.Laws.{Writing}
use Rattle.texts.specs.Text.{turned}
use Rattle.texts.specs.Helpers.{shown}
use Rattle.texts.proofs.put_each.Given as goal

abbrev pub invariant-loop-i : goal.invariant-loop-i
invariant-loop-i l = Writing l.initial.room l.at (map (shown l.spaced) (turned l.text)) l.room l.i

abbrev pub decreases-loop-i : goal.decreases-loop-i
decreases-loop-i l = length l.text - l.i
