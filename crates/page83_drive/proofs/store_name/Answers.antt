-- `store_name`: the head, its descriptor's head beside it, and the name beside that.
use native.Mathlib.Omega.{arith}
use Rattle.identify.proofs.Block.{length_name}
use Rattle.page83_drive.proofs.store_name.Goals as goal

pub store_turned-requires : goal.store_turned-requires
store_turned-requires c =
    rw (c.name.ensures, length_name c.args.block.now c.requires.0) (omega arith, omega arith)
