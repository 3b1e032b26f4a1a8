-- `heard`: by whether the registers are there, then by the key.
use mathlib.Core.Path.{◌∙◌, sym}
use borrow.Author.Tests.{eq-eqb, ne_eqb}
use Rattle.health_asked.specs.Said.{heard_in}
use Rattle.health_asked.proofs.heard.Goals as goal

pub returns-then-not-has_registers : goal.returns-then-not-has_registers
unfolding heard_in
returns-then-not-has_registers c = rw (sym c.has_registers.ensures ∙ c.if-not-has_registers.true)

pub returns-then-sense-eq11 : goal.returns-then-sense-eq11
unfolding heard_in
returns-then-sense-eq11 c =
    rw (sym c.has_registers.ensures ∙ c.if-not-has_registers.false, eq-eqb _ _ c.if-sense-eq11.true)

pub returns : goal.returns
unfolding heard_in
returns c =
    rw (sym c.has_registers.ensures ∙ c.if-not-has_registers.false, ne_eqb _ _ c.if-sense-eq11.false) c.verdict.ensures
