-- `ultra_dma`: the bits that the mask leaves where word 53 bit 2 is one, and else none.
use mathlib.Core.Path.{sym}
use borrow.Author.Tests.{eq-eqb, ne_eqb}
use Rattle.classes.specs.Classes.{ultra_dma, no_mode}
use Rattle.classes.proofs.Masked.{of_the_mode}
use Rattle.classes.proofs.ultra_dma.Goals as goal
use Rattle.classes.proofs.ultra_dma.Goals.{then-word-eq1, else-word-eq1}

pub returns : goal.returns
unfolding ultra_dma
returns c =
    elim c.if-word-eq1.branch [
      | then-word-eq1 w ↦ rw (← c.word.ensures, eq-eqb _ _ w.if-word-eq1.true, ← w.word-then-word-eq1.ensures) (sym (of_the_mode _ no_mode _ (rw w.modes-is at c.highest.ensures)))
      | else-word-eq1 w ↦ rw (← c.word.ensures, ne_eqb _ _ w.if-word-eq1.false) (c.highest.ensures.of_zero w.modes-is)
    ]
