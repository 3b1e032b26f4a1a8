-- `end`: by whether the board refused to complete.
use borrow.Author.Tests.{eq-eqb, ne_eqb}
use Rattle.health_asked.specs.Asked.{ended}
use Rattle.health_asked.proofs.end.Goals as goal

pub returns-then-number-ne0 : goal.returns-then-number-ne0
unfolding ended
returns-then-number-ne0 c = rw (← c.complete-completed.ensures, ne_eqb _ _ c.if-number-ne0.true)

pub returns : goal.returns
unfolding ended
returns c = rw (← c.complete-completed.ensures, eq-eqb _ _ c.if-number-ne0.false, c.heard.ensures)
