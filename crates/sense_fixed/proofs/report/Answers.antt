-- `report`: the definition's bytes, side by side.
use mathlib.Core.Path.{refl}
use Rattle.room.proofs.Laws.{beside}
use Rattle.sense_fixed.specs.Fixed.{fixed_sense}
use Rattle.sense_fixed.proofs.report.Goals as goal

pub returns : goal.returns
unfolding fixed_sense
returns c =
    let third = rw c.upper_bits-upper.ensures at c.store_four-3.ensures in
    beside (beside (beside (beside c.store_four.ensures c.store_four-2.ensures refl) third refl) c.store_four-4.ensures refl) c.copy.ensures refl
