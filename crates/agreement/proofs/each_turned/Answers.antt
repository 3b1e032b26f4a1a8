-- `each_turned`: the same, byte i of the turned text at a time.
use mathlib.Core.Path.{sym, ◌∙◌}
use Rattle.texts.specs.Helpers.{shown}
use Rattle.texts.proofs.Text.{length_text}
use Rattle.agreement.proofs.Laws.{begin, ends_apart, ends_alike}
use Rattle.agreement.proofs.each_turned.Goals as goal

pub loop-i-init : goal.loop-i-init
loop-i-init c =
    let a = c.args in
    begin (rw (length_text (shown a.spaced) a.text.now) c.lesser-n.ensures)

pub returns-then-run-at : goal.returns-then-run-at
returns-then-run-at c = ends_apart c.loop-i.invariant (λ e. c.if-run-at.true (e ∙ sym c.turned_at.ensures))

pub returns : goal.returns
returns c = ends_alike c.loop-i.invariant c.loop-i-test.false
