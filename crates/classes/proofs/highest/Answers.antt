-- `highest`: by the zeros in front.
use native.Mathlib.Omega.{arith}
use Rattle.classes.proofs.Masked.{leading}
use Rattle.classes.proofs.highest.Goals as goal

pub returns : goal.returns
returns c = (leading c.args.masked (omega arith) c.ranges.masked.fits).1 c.args.none
