-- `spaced_number`: a quarter of the top bits that bytes lack makes those bytes spaces.
use Rattle.drive.specs.Helpers.{number}
use Rattle.drive.proofs.Number.{spaced_number}
use Rattle.drive.proofs.eights.spaced_number.Goals as goal

pub returns : goal.returns
unfolding number
returns c = rw c.number-x.ensures.value (spaced_number c.number-x.ensures.each c.requires)
