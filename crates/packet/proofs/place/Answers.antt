-- `place`: every code passed is below 89h.
use native.Mathlib.Omega.{arith}
use Rattle.packet.proofs.Laws.{below_is}
use borrow.Author.Rules.{rules}
use Rattle.packet.proofs.place.Goals as goal

pub returns-then-codes-i-ge137 : goal.returns-then-codes-i-ge137
returns-then-codes-i-ge137 c = (below_is _ _ c.loop-i.invariant (λ h. omega arith), search rules)

pub returns : goal.returns
returns c = (below_is _ _ c.loop-i.invariant (λ h. omega arith), search rules)
