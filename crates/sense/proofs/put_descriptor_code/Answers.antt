-- `put_descriptor_code`: the bytes are the definition's.
use Rattle.sense.specs.Sense.{descriptor_sense}
use Rattle.sense.proofs.put_descriptor_code.Goals as goal

pub returns : goal.returns
unfolding descriptor_sense
returns c = c.copy.ensures
