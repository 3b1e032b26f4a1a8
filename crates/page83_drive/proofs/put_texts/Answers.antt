-- `put_texts`: whole where it fits, else piece by piece.
use mathlib.Core.Path.{refl}
use native.Mathlib.Omega.{arith}
use Rattle.room.proofs.Laws.{beside}
use Rattle.identify.specs.Block.{model}
use Rattle.texts.specs.Text.{turned, spaced}
use Rattle.page83_drive.proofs.Laws.{length_model_text}
use Rattle.page83_drive.proofs.put_texts.Goals as goal

pub returns : goal.returns
returns c =
    let vendor = beside c.put_short.ensures c.put_short-2.ensures refl in
    beside (beside {t = spaced (turned (model c.args.block.now))} vendor (rw c.model.ensures at c.put_each.ensures) refl)
    (rw c.serial.ensures at c.put_each-2.ensures) (omega (arith, length_model_text c.args.block.now c.requires))
