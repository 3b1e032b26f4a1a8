-- `fault`: the checks in order.
use mathlib.Core.Path.{◌∙◌, sym}
use borrow.Author.Tests.{eq-eqb, ne_eqb, lt-ltb, le-ltb}
use Rattle.inquiry_checks.specs.Helpers.{command_refusal, early_refusal}
use Rattle.inquiry_checks.proofs.fault.Goals as goal

pub returns-then-wrong_size : goal.returns-then-wrong_size
unfolding early_refusal
returns-then-wrong_size c = rw (sym c.wrong_size.ensures ∙ c.if-wrong_size.true)

pub returns-then-damaged : goal.returns-then-damaged
unfolding early_refusal
returns-then-damaged c = rw (sym c.wrong_size.ensures ∙ c.if-wrong_size.false, sym c.damaged.ensures ∙ c.if-damaged.true)

pub returns-then-command-eq0 : goal.returns-then-command-eq0
unfolding early_refusal
returns-then-command-eq0 c = rw (sym c.wrong_size.ensures ∙ c.if-wrong_size.false, sym c.damaged.ensures ∙ c.if-damaged.false, eq-eqb _ _ c.if-command-eq0.true)

pub returns-then-command-ne18 : goal.returns-then-command-ne18
unfolding early_refusal
returns-then-command-ne18 c = rw (sym c.wrong_size.ensures ∙ c.if-wrong_size.false, sym c.damaged.ensures ∙ c.if-damaged.false, ne_eqb _ _ c.if-command-eq0.false, ne_eqb _ _ c.if-command-ne18.true)

pub returns-then-command-lt6 : goal.returns-then-command-lt6
unfolding early_refusal
returns-then-command-lt6 c = rw (sym c.wrong_size.ensures ∙ c.if-wrong_size.false, sym c.damaged.ensures ∙ c.if-damaged.false, ne_eqb _ _ c.if-command-eq0.false, eq-eqb _ _ c.if-command-ne18.false, lt-ltb _ _ c.if-command-lt6.true)

pub returns : goal.returns
unfolding early_refusal command_refusal
returns c = rw (sym c.wrong_size.ensures ∙ c.if-wrong_size.false, sym c.damaged.ensures ∙ c.if-damaged.false, ne_eqb _ _ c.if-command-eq0.false, eq-eqb _ _ c.if-command-ne18.false, le-ltb _ _ c.if-command-lt6.false) c.command_fault.ensures
