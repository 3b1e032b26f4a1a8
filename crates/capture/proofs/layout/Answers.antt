-- `layout`: by whether 89h stands behind the others.
use mathlib.Core.Path.{sym, ◌∙◌}
use Rattle.capture.specs.Capture.{layout, holds}
use Rattle.capture.proofs.Laws.{to_the_end}
use Rattle.capture.proofs.layout.Goals as goal

pub returns-then-stands_89 : goal.returns-then-stands_89
unfolding layout holds
returns-then-stands_89 c =
    let stands = rw to_the_end at c.stands_89.ensures in
    rw (← c.others_end-at.ensures.0, sym stands ∙ c.if-stands_89.true)

pub returns : goal.returns
unfolding layout holds
returns c =
    let stands = rw to_the_end at c.stands_89.ensures in
    rw (← c.others_end-at.ensures.0, sym stands ∙ c.if-stands_89.false)
