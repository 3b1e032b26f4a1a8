-- `inquiry`: refused for the intake, or the INQUIRY entry's answer.
use mathlib.Core.Path.{◌∙◌, sym}
use Rattle.refusals.specs.Refusal.{row_of, refused_sense}
use Rattle.received.specs.Received.{inquiry_of}
use Rattle.received.proofs.inquiry.Goals as goal

pub returns-then-wrong : goal.returns-then-wrong
unfolding inquiry_of row_of refused_sense
returns-then-wrong c = rw (sym c.wrong.ensures ∙ c.if-wrong.true)

pub returns : goal.returns
unfolding inquiry_of
returns c = rw (sym c.wrong.ensures ∙ c.if-wrong.false, ← c.block.ensures) c.inquiry.ensures
