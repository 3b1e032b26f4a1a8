-- `beside`: a block that is used takes the next row, a damaged one none.
use Rattle.std.proofs.Common.{◌∙◌, sym}
use Rattle.labels.proofs.Rows.{none_yet, taken, passed_over}
use Rattle.labels.proofs.beside.Goals as goal
use Rattle.labels.proofs.beside.Goals.{then-is_used, else-is_used}

pub loop-i-init : goal.loop-i-init
loop-i-init c = none_yet c.args.given.now c.args.blocks.now 64 c.requires

pub loop-i-preserved : goal.loop-i-preserved
loop-i-preserved c =
    elim c.if-is_used.branch [
      | then-is_used w ↦ rw (w.rows-is, w.next-is) (taken c.loop-i.invariant c.loop-i-test.true (sym c.is_used.ensures ∙ w.if-is_used.true))
      | else-is_used w ↦ rw (w.rows-is, w.next-is) (passed_over c.loop-i.invariant c.loop-i-test.true (sym c.is_used.ensures ∙ w.if-is_used.false))
    ]
