-- `block_size`: refused, or by whether it is complete.
use Rattle.std.proofs.Common.{sym, ◌∙◌, eq-eqb, ne_eqb}
use Rattle.intake.specs.Intake.{offered}
use Rattle.intake.proofs.block_size.Goals as goal

pub returns-then-wrong : goal.returns-then-wrong
unfolding offered
returns-then-wrong c = rw (sym c.wrong.ensures ∙ c.if-wrong.true)

pub returns-then-intake-eq512 : goal.returns-then-intake-eq512
unfolding offered
returns-then-intake-eq512 c = rw (sym c.wrong.ensures ∙ c.if-wrong.false, eq-eqb _ _ c.if-intake-eq512.true)

pub returns : goal.returns
unfolding offered
returns c = rw (sym c.wrong.ensures ∙ c.if-wrong.false, ne_eqb _ _ c.if-intake-eq512.false)
