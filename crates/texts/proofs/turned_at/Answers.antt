-- `turned_at`: the byte with a partner, and the last byte with none.
use mathlib.Core.Path.{◌∙◌, sym}
use native.Mathlib.Omega.{arith}
use Rattle.texts.specs.Helpers.{shown}
use Rattle.texts.proofs.Text.{turned_pair, turned_last}
use Rattle.texts.proofs.turned_at.Goals as goal

pub returns-then-j-text : goal.returns-then-j-text
returns-then-j-text c =
    let a = c.args in
    c.shown.ensures ∙ sym (turned_pair (shown a.spaced) a.text.now a.i (omega arith) (omega arith))

pub returns : goal.returns
returns c =
    let a = c.args in
    c.shown-2.ensures ∙ sym (turned_last (shown a.spaced) a.text.now a.i (omega arith) (omega arith))
