-- `information`: 89h is the last field, and has 572 bytes.
use mathlib.Core.Path.{◌∙◌, ap}
use native.Mathlib.Omega.{arith}
use lib.ListN.{length}
use Rattle.capture.proofs.Laws.{ends_89, last_bytes, length_information, to_the_end}
use Rattle.capture.proofs.information.Goals as goal

pub overflow_sub-result : goal.overflow_sub-result
overflow_sub-result c = omega (arith, ends_89 c.args.capture.now c.requires)

pub returns-clause-bytes : goal.returns-clause-bytes
returns-clause-bytes c = rw to_the_end (last_bytes c.args.capture.now c.requires)

pub returns-clause-size : goal.returns-clause-size
returns-clause-size c = rw to_the_end (ap length (last_bytes c.args.capture.now c.requires) ∙ length_information c.args.capture.now c.requires)
