-- `sector_size`: by what word 106 says.
use mathlib.Core.Path.{◌∙◌, sym}
use Rattle.identify.specs.Sector.{sector_size}
use Rattle.identify.proofs.sector_size.Goals as goal

pub returns-then-tells_size-clause-size : goal.returns-then-tells_size-clause-size
unfolding sector_size
returns-then-tells_size-clause-size c = rw (sym (rw c.word.ensures at c.tells_size.ensures) ∙ c.if-tells_size.true, c.word-low.ensures, c.word-high.ensures)

pub returns-clause-size : goal.returns-clause-size
unfolding sector_size
returns-clause-size c = rw (sym (rw c.word.ensures at c.tells_size.ensures) ∙ c.if-tells_size.false)
