-- `put_serial`: the head, and the serial number beside it.
use mathlib.Core.Path.{refl}
use native.Mathlib.Omega.{arith}
use Rattle.room.proofs.Laws.{beside}
use Rattle.identify.proofs.Block.{length_serial}
use Rattle.pages.specs.Page.{page80}
use Rattle.pages.proofs.put_serial.Goals as goal

pub put_spaced-requires : goal.put_spaced-requires
put_spaced-requires c =
    rw (c.serial.ensures, length_serial c.args.block.now c.requires) (omega arith)

pub returns : goal.returns
unfolding page80
returns c = beside c.put_short.ensures (rw c.serial.ensures at c.put_spaced.ensures) refl
