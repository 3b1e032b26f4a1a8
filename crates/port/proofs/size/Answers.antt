-- `size`: by what is chosen.
use mathlib.Core.Path.{◌∙◌, sym}
use Rattle.port.specs.Helpers.{ports_size}
use Rattle.port.proofs.size.Goals as goal

pub returns-then-sas_chosen-clause-value : goal.returns-then-sas_chosen-clause-value
unfolding ports_size
returns-then-sas_chosen-clause-value c = rw (sym c.relative_chosen.ensures ∙ c.if-relative_chosen.true, sym c.sas_chosen.ensures ∙ c.if-sas_chosen.true)

pub returns-then-relative_chosen-clause-value : goal.returns-then-relative_chosen-clause-value
unfolding ports_size
returns-then-relative_chosen-clause-value c = rw (sym c.relative_chosen.ensures ∙ c.if-relative_chosen.true, sym c.sas_chosen.ensures ∙ c.if-sas_chosen.false)

pub returns-then-sas_chosen-2-clause-value : goal.returns-then-sas_chosen-2-clause-value
unfolding ports_size
returns-then-sas_chosen-2-clause-value c = rw (sym c.relative_chosen.ensures ∙ c.if-relative_chosen.false, sym c.sas_chosen-2.ensures ∙ c.if-sas_chosen-2.true)

pub returns-clause-value : goal.returns-clause-value
unfolding ports_size
returns-clause-value c = rw (sym c.relative_chosen.ensures ∙ c.if-relative_chosen.false, sym c.sas_chosen-2.ensures ∙ c.if-sas_chosen-2.false)
