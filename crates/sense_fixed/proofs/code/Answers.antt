-- `code`: the bytes are the definition's.
use Rattle.sense_fixed.specs.Fixed.{fixed_sense}
use Rattle.sense_fixed.proofs.code.Goals as goal

pub returns : goal.returns
unfolding fixed_sense
returns c = c.copy.ensures
