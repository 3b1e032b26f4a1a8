-- `put_standard`: the head, the product text beside it, the revision beside that.
use mathlib.Core.Path.{refl}
use native.Mathlib.Omega.{arith}
use lib.ListN.{take}
use lib.Seq.{length-take-le}
use Rattle.room.proofs.Laws.{beside}
use Rattle.identify.proofs.Block.{length_firmware, length_model}
use Rattle.texts.specs.Text.{turned}
use Rattle.laws.proofs.Laws.{cut_turned}
use Rattle.identify.specs.Block.{model}
use Rattle.pages.specs.Page.{standard}
use Rattle.pages.proofs.Laws.{length_product}
use Rattle.pages.proofs.put_standard.Goals as goal

pub put_turned-requires : goal.put_turned-requires
put_turned-requires c =
    let block = c.args.block.now in
    rw (c.product.ensures, length-take-le 16 (model block) (omega (arith, length_model block c.requires))) (omega arith)

pub put_revision-requires : goal.put_revision-requires
put_revision-requires c =
    rw c.firmware.ensures (length_firmware c.args.block.now c.requires)

pub returns : goal.returns
unfolding standard
returns c =
    let block = c.args.block.now in
    beside (beside {t = take 16 (turned (model block))} (rw c.standard_head-head.ensures at c.put_short.ensures) (rw (c.product.ensures, ← cut_turned 8 (model block)) at c.put_turned.ensures) refl)
    (rw c.firmware.ensures at c.put_revision.ensures) (omega (arith, length_product block c.requires))
