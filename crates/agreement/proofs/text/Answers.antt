-- `text`: the same of a text that is turned.
use mathlib.Core.Path.{sym, ◌∙◌}
use lib.ListN.{length}
use Rattle.texts.specs.Helpers.{shown}
use Rattle.texts.proofs.Text.{length_text}
use Rattle.agreement.proofs.Laws.{whole_agrees}
use Rattle.agreement.proofs.text.Goals as goal

pub returns-then-whole_text : goal.returns-then-whole_text
returns-then-whole_text c =
    let a = c.args in
    whole_agrees a.run.now a.at (length a.text.now) _ (sym (length_text (shown a.spaced) a.text.now)) (sym c.whole_text.ensures ∙ c.if-whole_text.true)
