-- `put_name`: whole where it fits, else piece by piece.
use native.Mathlib.Omega.{arith}
use Rattle.identify.proofs.Block.{length_name}
use Rattle.page83_drive.proofs.put_name.Goals as goal

pub put_turned-requires : goal.put_turned-requires
put_turned-requires c =
    rw (c.name.ensures, length_name c.args.block.now c.requires) (omega arith)
