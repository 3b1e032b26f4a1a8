-- `whole_bytes`: too short, or four bytes at a time.
use mathlib.Core.Path.{refl, sym, ◌∙◌}
use lib.ListN.{length}
use Rattle.agreement.proofs.Laws.{own_four, other_four, end_fours, too_short}
use Rattle.agreement.proofs.whole_bytes.Goals as goal

pub returns-then-run-at : goal.returns-then-run-at
returns-then-run-at c =
    let a = c.args in
    too_short a.run.now a.at (length a.piece.now) a.piece.now refl c.if-run-at.true

pub returns-then-not-four : goal.returns-then-not-four
returns-then-not-four c = other_four c.loop-i.invariant c.loop-i-test.true (own_four _ _) (sym c.four.ensures ∙ c.if-not-four.true)

pub returns : goal.returns
returns c = end_fours c.loop-i.invariant c.loop-i-test.false
