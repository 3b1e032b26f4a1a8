-- `store_turned`: four words at a time, and the text ends behind the last four.
use mathlib.Core.Path.{◌≡◌}
use Prim.Native.Nat.{◌-◌, ◌%◌}
use lib.ListN.{length}
use Rattle.room.proofs.Laws.{Writing}
use Rattle.texts.specs.Text.{turned}
use Rattle.text_writers.proofs.store_turned.Given as goal

abbrev pub invariant-loop-i : goal.invariant-loop-i
invariant-loop-i l = Writing l.initial.room l.at (turned l.text) l.room l.i × (l.i % 8 ≡ 0)

abbrev pub decreases-loop-i : goal.decreases-loop-i
decreases-loop-i l = length l.text - l.i
