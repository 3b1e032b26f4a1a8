-- `report_descriptor`: the head, and the registers beside it.
use mathlib.Core.Path.{refl}
use Rattle.room.proofs.Laws.{beside}
use Rattle.sense.specs.Sense.{descriptor_sense}
use Rattle.sense.proofs.report_descriptor.Goals as goal

pub returns : goal.returns
unfolding descriptor_sense
returns c = beside (rw c.flag.ensures at c.copy.ensures) c.store_shown.ensures refl
