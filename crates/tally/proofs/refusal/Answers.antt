-- `refusal`: the first check that applies.
use mathlib.Core.Path.{sym, ◌∙◌}
use borrow.Author.Tests.{eq-eqb, ne_eqb}
use Rattle.tally.specs.Census.{refusal_of}
use Rattle.tally.proofs.refusal.Goals as goal

pub returns-then-block-ne512 : goal.returns-then-block-ne512
unfolding refusal_of
returns-then-block-ne512 c = rw (ne_eqb _ _ c.if-block-ne512.true)

pub returns-then-closed : goal.returns-then-closed
unfolding refusal_of
returns-then-closed c = rw (eq-eqb _ _ c.if-block-ne512.false, sym c.closed.ensures ∙ c.if-closed.true)

pub returns-then-damaged : goal.returns-then-damaged
unfolding refusal_of
returns-then-damaged c = rw (eq-eqb _ _ c.if-block-ne512.false, sym c.closed.ensures ∙ c.if-closed.false, sym c.damaged.ensures ∙ c.if-damaged.true)

pub returns : goal.returns
unfolding refusal_of
returns c = rw (eq-eqb _ _ c.if-block-ne512.false, sym c.closed.ensures ∙ c.if-closed.false, sym c.damaged.ensures ∙ c.if-damaged.false)
