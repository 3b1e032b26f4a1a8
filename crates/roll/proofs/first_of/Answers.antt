-- `first_of`: no block passed is of the same drive.
use mathlib.Core.Path.{◌∙◌, sym}
use borrow.Author.Count.{below_more}
use borrow.Author.Rules.{rules}
use Rattle.roll.proofs.first_of.Goals as goal

pub loop-j-preserved : goal.loop-j-preserved
loop-j-preserved c =
    let this = rw (c.block_at.ensures.block, c.block_at-block.ensures.block) at (sym c.same_drive.ensures ∙ c.if-same_drive.false) in
    (search rules, below_more _ _ c.loop-j.invariant.1 this)
