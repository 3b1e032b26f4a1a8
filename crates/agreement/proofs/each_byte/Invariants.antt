-- `each_byte`: before turn i the first i bytes agree.
use Prim.Native.Nat.{◌-◌}
use Rattle.agreement.proofs.Laws.{Comparing}
use Rattle.agreement.proofs.each_byte.Given as goal

abbrev pub invariant-loop-i : goal.invariant-loop-i
invariant-loop-i l = Comparing l.run l.at l.n l.piece l.i

abbrev pub decreases-loop-i : goal.decreases-loop-i
decreases-loop-i l = l.n - l.i
