-- `put_revision`: the two words that are shown, turned.
use mathlib.Core.Path.{◌∙◌, ap, sym}
use Rattle.texts.specs.Text.{turned, revision}
use Rattle.texts.proofs.Text.{turned_two_words}
use Rattle.texts.proofs.put_revision.Goals as goal

pub returns : goal.returns
unfolding revision
returns c =
    let part = c.revision_part-part in
    rw (ap turned (sym part.ensures.part) ∙ turned_two_words part.result.now part.ensures.size) c.put_short.ensures
