-- `each_byte`: before turn i the first i bytes agree.
use Rattle.agreement.proofs.Laws.{ends_apart, ends_alike}
use Rattle.agreement.proofs.each_byte.Goals as goal

pub returns-then-run-at : goal.returns-then-run-at
returns-then-run-at c = ends_apart c.loop-i.invariant c.if-run-at.true

pub returns : goal.returns
returns c = ends_alike c.loop-i.invariant c.loop-i-test.false
