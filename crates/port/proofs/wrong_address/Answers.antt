-- `wrong_address`: by what is chosen.
use mathlib.Core.Path.{◌∙◌, sym}
use Rattle.port.specs.Ports.{wrong_address}
use Rattle.port.proofs.wrong_address.Goals as goal

pub returns-then-sas_chosen : goal.returns-then-sas_chosen
unfolding wrong_address
returns-then-sas_chosen c = rw (sym c.sas_chosen.ensures ∙ c.if-sas_chosen.true)

pub returns : goal.returns
unfolding wrong_address
returns c = rw (sym c.sas_chosen.ensures ∙ c.if-sas_chosen.false)
