-- `whole_text`: the same, each four turned.
use mathlib.Core.Path.{sym, ◌∙◌}
use native.Mathlib.Omega.{arith}
use lib.ListN.{length}
use Rattle.texts.specs.Helpers.{shown}
use Rattle.texts.proofs.Text.{length_text}
use Rattle.agreement.proofs.Laws.{text_four, begin_fours, same_four, other_four, end_fours, too_short}
use Rattle.agreement.proofs.whole_text.Goals as goal

pub returns-then-run-at : goal.returns-then-run-at
returns-then-run-at c =
    let a = c.args in
    too_short a.run.now a.at (length a.text.now) _ (sym (length_text (shown a.spaced) a.text.now)) c.if-run-at.true

pub loop-i-init : goal.loop-i-init
loop-i-init c =
    begin_fours c.requires.1 (omega (arith, c.requires.0, c.if-run-at.false)) (sym (length_text (shown c.args.spaced) c.args.text.now))

pub returns-then-not-four : goal.returns-then-not-four
returns-then-not-four c =
    let w = c.loop-i in
    let a = c.args in
    let h = c.loop-i-test.true in
    let t = text_four (shown a.spaced) a.text.now w.i w.invariant.fours (omega (arith, w.invariant.fours, w.invariant.all_fours, h)) c.shown-a.ensures c.shown-b.ensures c.shown-c.ensures c.shown-d.ensures in
    other_four w.invariant h t (sym c.four.ensures ∙ c.if-not-four.true)

pub loop-i-preserved : goal.loop-i-preserved
loop-i-preserved c =
    let w = c.loop-i in
    let a = c.args in
    let h = c.loop-i-test.true in
    let t = text_four (shown a.spaced) a.text.now w.i w.invariant.fours (omega (arith, w.invariant.fours, w.invariant.all_fours, h)) c.shown-a.ensures c.shown-b.ensures c.shown-c.ensures c.shown-d.ensures in
    same_four w.invariant h t (sym c.four.ensures ∙ c.if-not-four.false)

pub returns : goal.returns
returns c = end_fours c.loop-i.invariant c.loop-i-test.false
