-- `major_version`: none where the word is FFFFh, and else the bits that the mask leaves.
use mathlib.Core.Path.{sym}
use borrow.Author.Tests.{eq-eqb, ne_eqb}
use Rattle.classes.specs.Classes.{major_version, no_version}
use Rattle.classes.proofs.Masked.{of_the_version}
use Rattle.classes.proofs.major_version.Goals as goal
use Rattle.classes.proofs.major_version.Goals.{then-word, else-word}

pub returns : goal.returns
unfolding major_version
returns c =
    elim c.if-word.branch [
      | then-word w ↦ rw (← c.word-word.ensures, eq-eqb _ _ w.if-word.true) (c.highest.ensures.of_zero w.versions-is)
      | else-word w ↦ rw (← c.word-word.ensures, ne_eqb _ _ w.if-word.false) (sym (of_the_version _ no_version _ (rw w.versions-is at c.highest.ensures)))
    ]
