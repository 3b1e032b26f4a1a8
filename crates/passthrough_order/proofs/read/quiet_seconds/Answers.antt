-- `quiet_seconds`: no power from the first on is below two.
use native.Mathlib.Omega.{arith}
use lib.Pow.{pow_mono}
use Rattle.passthrough_order.proofs.read.quiet_seconds.Goals as goal

pub overflow_sub-result : goal.overflow_sub-result
overflow_sub-result c = rw c.power.ensures (pow_mono {i = 1} (omega arith))
