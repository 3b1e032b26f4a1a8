-- `is_fixed`: every number but the one that asks for descriptors.
use mathlib.Core.Path.{refl}
use Rattle.sense.specs.Sense.{is_fixed}
use Rattle.sense.proofs.is_fixed.Goals as goal

pub returns : goal.returns
unfolding is_fixed
returns c = refl
