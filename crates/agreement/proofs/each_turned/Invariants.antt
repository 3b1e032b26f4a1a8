-- `each_turned`: the same, byte i of the turned text at a time.
use mathlib.Core.List.{map}
use Prim.Native.Nat.{◌-◌}
use Rattle.texts.specs.Text.{turned}
use Rattle.texts.specs.Helpers.{shown}
use Rattle.agreement.proofs.Laws.{Comparing}
use Rattle.agreement.proofs.each_turned.Given as goal

abbrev pub invariant-loop-i : goal.invariant-loop-i
invariant-loop-i l = Comparing l.run l.at l.n (map (shown l.spaced) (turned l.text)) l.i

abbrev pub decreases-loop-i : goal.decreases-loop-i
decreases-loop-i l = l.n - l.i
