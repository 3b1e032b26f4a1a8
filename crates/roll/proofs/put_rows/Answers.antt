-- `put_rows`: the rows of the blocks passed, and how many drives they are.
use mathlib.Core.Path.{refl, ◌∙◌}
use native.Mathlib.Omega.{arith}
use lib.ListN.{length-set}
use mathlib.Core.List.{[]}
use Rattle.roll.specs.Roll.{blocks_in, drives_from}
use Rattle.roll.proofs.Laws.{one_more, drives_at_most, length_blocks}
use Rattle.roll.proofs.put_rows.Goals as goal

pub loop-i-init : goal.loop-i-init
unfolding blocks_in drives_from
loop-i-init c = (omega arith, refl, record { room = refl; drives = refl })

pub row_of-next-requires : goal.row_of-next-requires
row_of-next-requires c =
    let l = c.loop-i in
    let bytes = c.args.bytes.now in
    (omega arith, omega arith, omega (arith, l.invariant.2.drives, drives_at_most [] (blocks_in l.i bytes), length_blocks l.i bytes))

pub loop-i-preserved : goal.loop-i-preserved
loop-i-preserved c =
    let l = c.loop-i in
    let a = c.args in
    let next = one_more a.bytes.now a.rows.now l.rows l.i c.first_of.result l.drives l.invariant.2 c.first_of.ensures (omega arith) in
    (omega arith, length-set l.rows l.i _ ∙ l.invariant.1, rw c.row_of-next.ensures next)
