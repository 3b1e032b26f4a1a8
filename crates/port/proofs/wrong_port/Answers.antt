-- `wrong_port`: by what is chosen.
use mathlib.Core.Path.{◌∙◌, sym}
use Rattle.port.specs.Ports.{wrong_port}
use Rattle.port.proofs.wrong_port.Goals as goal

pub returns-then-relative_chosen : goal.returns-then-relative_chosen
unfolding wrong_port
returns-then-relative_chosen c = rw (sym c.relative_chosen.ensures ∙ c.if-relative_chosen.true, c.is_port.ensures)

pub returns : goal.returns
unfolding wrong_port
returns c = rw (sym c.relative_chosen.ensures ∙ c.if-relative_chosen.false)
