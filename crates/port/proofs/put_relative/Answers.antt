-- `put_relative`: its bytes, or none.
use mathlib.Core.Path.{refl, ◌∙◌, sym}
use Rattle.port.specs.Ports.{relative_part}
use Rattle.port.proofs.put_relative.Goals as goal

pub returns-then-relative_chosen : goal.returns-then-relative_chosen
unfolding relative_part
returns-then-relative_chosen c = rw (sym c.relative_chosen.ensures ∙ c.if-relative_chosen.true) (record { end = refl; room = c.put_short.ensures })

pub returns : goal.returns
unfolding relative_part
returns c = rw (sym c.relative_chosen.ensures ∙ c.if-relative_chosen.false) (record { end = refl; room = record { leaves = refl } })
