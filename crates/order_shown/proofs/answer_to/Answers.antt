-- `answer_to`: what is built for the order that the line names.
use Rattle.order_shown.specs.Shown.{answer_for}
use Rattle.order_shown.proofs.answer_to.Goals as goal

pub returns : goal.returns
unfolding answer_for
returns c = rw (c.build.ensures, ← c.without_return-line.ensures, ← c.passed_over.ensures, c.if-passed_over.false, ← c.in_ok-order.ensures)
