-- `verdict`: by the tests of both bytes.
use Rattle.health_asked.specs.Said.{verdict_of}
use Rattle.health_asked.proofs.verdict.Goals as goal

pub returns-then-mid-high : goal.returns-then-mid-high
unfolding verdict_of
returns-then-mid-high c = rw c.if-mid-high.true

pub returns-then-mid-high-2 : goal.returns-then-mid-high-2
unfolding verdict_of
returns-then-mid-high-2 c = rw (c.if-mid-high.false, c.if-mid-high-2.true)

pub returns : goal.returns
unfolding verdict_of
returns c = rw (c.if-mid-high.false, c.if-mid-high-2.false)
