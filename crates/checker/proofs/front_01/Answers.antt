-- `front_01`: the field, or none.
use mathlib.Core.Path.{sym, ◌∙◌}
use Rattle.checker.specs.Check.{ours, expected}
use Rattle.checker.specs.Helpers.{front_beside}
use Rattle.checker.proofs.front_01.Goals as goal

pub returns-then-stands : goal.returns-then-stands
unfolding front_beside expected ours
returns-then-stands c =
    rw (sym c.stands.ensures ∙ c.if-stands.true, ← c.content.ensures, ← c.block.ensures.bytes) c.standard.ensures

pub returns : goal.returns
unfolding front_beside
returns c =
    rw (sym c.stands.ensures ∙ c.if-stands.false) c.absent.ensures
