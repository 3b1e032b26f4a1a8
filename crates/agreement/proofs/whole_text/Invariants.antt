-- `whole_text`: the same, each four turned.
use mathlib.Core.List.{map}
use Prim.Native.Nat.{◌-◌}
use lib.ListN.{length}
use Rattle.texts.specs.Text.{turned}
use Rattle.texts.specs.Helpers.{shown}
use Rattle.agreement.proofs.Laws.{ByFours}
use Rattle.agreement.proofs.whole_text.Given as goal

abbrev pub invariant-loop-i : goal.invariant-loop-i
invariant-loop-i l = ByFours l.run l.at (length l.text) (map (shown l.spaced) (turned l.text)) l.i

abbrev pub decreases-loop-i : goal.decreases-loop-i
decreases-loop-i l = length l.text - l.i
