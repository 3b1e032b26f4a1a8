-- `product`: the front of the model.
use mathlib.Core.Path.{sym}
use native.Mathlib.Omega.{arith}
use lib.Seq.{length-take-le}
use Rattle.identify.proofs.Block.{length_model}
use Rattle.pages.proofs.product.Goals as goal

pub slice_bounds-result-end : goal.slice_bounds-result-end
slice_bounds-result-end c =
    sym (length-take-le 16 c.model.result.now (rw (c.model.ensures, length_model c.args.block.now c.requires) (omega arith)))
