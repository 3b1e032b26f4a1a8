-- `store_spaced`: four words at a time, and the last two where the text does not end behind four.
use mathlib.Core.Path.{◌≡◌}
use Prim.Native.Nat.{◌-◌, ◌%◌, ◌≤◌}
use lib.ListN.{length}
use Rattle.room.proofs.Laws.{Writing}
use Rattle.texts.specs.Text.{turned, spaced}
use Rattle.text_writers.proofs.store_spaced.Given as goal

abbrev pub invariant-loop-i : goal.invariant-loop-i
invariant-loop-i l = Writing l.initial.room l.at (spaced (turned l.text)) l.room l.i × ((l.i % 8 ≡ 0) × (l.i ≤ length l.text))

abbrev pub decreases-loop-i : goal.decreases-loop-i
decreases-loop-i l = length l.text - l.i
