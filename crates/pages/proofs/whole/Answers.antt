-- `whole`: the front of 512 bytes is all of them.
use mathlib.Core.Path.{sym}
use native.Mathlib.Omega.{arith}
use lib.Seq.{length-take-le, take_all}
use Rattle.pages.proofs.whole.Goals as goal

pub slice_bounds-result-end : goal.slice_bounds-result-end
slice_bounds-result-end c = sym (length-take-le 512 c.args.block.now (omega arith))

pub returns-clause-bytes : goal.returns-clause-bytes
returns-clause-bytes c = take_all 512 c.args.block.now (omega arith)

pub returns-clause-size : goal.returns-clause-size
returns-clause-size c = length-take-le 512 c.args.block.now (omega arith)
