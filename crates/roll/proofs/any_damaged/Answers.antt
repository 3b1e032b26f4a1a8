-- `any_damaged`: no block passed is damaged.
use mathlib.Core.Path.{◌≡◌, refl, ◌∙◌, sym}
use mathlib.Core.Bool.{true, false}
use native.Mathlib.Numerals.{add-one}
use native.Mathlib.Omega.{arith}
use Rattle.checksum.specs.Checksum.{damaged, any_damaged}
use Rattle.checksum.proofs.Laws.{damaged_more, damaged_at}
use Rattle.roll.specs.Roll.{blocks_in, block_at}
use Rattle.roll.proofs.Laws.{blocks_more, length_blocks, block_of_is}
use Rattle.roll.proofs.any_damaged.Goals as goal

pub loop-asked-init : goal.loop-asked-init
unfolding any_damaged blocks_in
loop-asked-init c = (omega arith, refl)

pub returns-then-damaged : goal.returns-then-damaged
returns-then-damaged c =
    let a = c.args in
    let k = c.loop-asked.asked in
    let this : damaged (block_at a.bytes.now k) ≡ true = rw c.block_at.ensures.block at (sym c.damaged.ensures ∙ c.if-damaged.true) in
    sym (damaged_at (blocks_in a.count a.bytes.now) k (rw (length_blocks a.count a.bytes.now) (omega arith)) (rw (block_of_is a.count k a.bytes.now (omega arith)) this))

pub loop-asked-preserved : goal.loop-asked-preserved
loop-asked-preserved c =
    let a = c.args in
    let k = c.loop-asked.asked in
    let this : damaged (block_at a.bytes.now k) ≡ false = rw c.block_at.ensures.block at (sym c.damaged.ensures ∙ c.if-damaged.false) in
    (omega arith, rw (add-one k, blocks_more k a.bytes.now, damaged_more (blocks_in k a.bytes.now) (block_at a.bytes.now k), c.loop-asked.invariant.1, this))
