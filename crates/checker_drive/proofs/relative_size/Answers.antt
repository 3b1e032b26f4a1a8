-- `relative_size`: eight bytes, or none.
use mathlib.Core.Path.{sym, ◌∙◌}
use Rattle.port.proofs.Laws.{length_relative}
use Rattle.checker_drive.proofs.relative_size.Goals as goal

pub returns-then-relative_chosen : goal.returns-then-relative_chosen
returns-then-relative_chosen c = rw (length_relative c.args.ports, sym c.relative_chosen.ensures ∙ c.if-relative_chosen.true)

pub returns : goal.returns
returns c = rw (length_relative c.args.ports, sym c.relative_chosen.ensures ∙ c.if-relative_chosen.false)
