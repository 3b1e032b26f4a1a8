-- `store_texts`: head, vendor, model and serial number, each beside the one before.
use mathlib.Core.Path.{refl}
use native.Mathlib.Omega.{arith}
use Rattle.room.proofs.Laws.{beside}
use Rattle.identify.specs.Block.{model}
use Rattle.identify.proofs.Block.{length_serial, length_model}
use Rattle.texts.specs.Text.{turned, spaced}
use Rattle.page83_drive.proofs.Laws.{length_model_text}
use Rattle.page83_drive.proofs.store_texts.Goals as goal

pub store_model-requires : goal.store_model-requires
store_model-requires c =
    rw (c.model.ensures, length_model c.args.block.now c.requires.0) (omega arith, omega arith)

pub store_serial-requires : goal.store_serial-requires
store_serial-requires c =
    rw (c.serial.ensures, length_serial c.args.block.now c.requires.0) (omega arith, omega arith)

pub returns : goal.returns
returns c =
    let vendor = beside c.store_four.ensures c.store.ensures refl in
    beside (beside {t = spaced (turned (model c.args.block.now))} vendor (rw c.model.ensures at c.store_model.ensures) refl)
    (rw c.serial.ensures at c.store_serial.ensures) (omega (arith, length_model_text c.args.block.now c.requires.0))
