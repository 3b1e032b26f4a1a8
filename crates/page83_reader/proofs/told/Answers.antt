-- `told`: what is behind the name, and what it tells.
use mathlib.Core.Path.{◌∙◌, sym}
use Rattle.page83_reader.specs.Reader.{tells_ports, ports_in, address_in, told}
use Rattle.page83_reader.proofs.told.Goals as goal

pub returns-then-not-sas_or_nothing : goal.returns-then-not-sas_or_nothing
unfolding tells_ports told
returns-then-not-sas_or_nothing c = rw (← c.behind_relative-sas.ensures, sym c.sas_or_nothing.ensures ∙ c.if-not-sas_or_nothing.true, c.refused.ensures)

pub returns : goal.returns
unfolding tells_ports ports_in address_in told
returns c = rw (← c.behind_relative-sas.ensures, sym c.sas_or_nothing.ensures ∙ c.if-not-sas_or_nothing.false, ← c.relative_in-relative.ensures, c.address_of.ensures, c.ports_of.ensures)
