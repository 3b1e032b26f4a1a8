-- `size`: four bytes, and the list with 89h.
use native.Mathlib.Omega.{arith}
use Rattle.packet.specs.Packet.{page00}
use Rattle.packet.proofs.size.Goals as goal

pub returns : goal.returns
unfolding page00
returns c =
    rw (c.count.ensures.0, c.listed-codes.ensures) (omega arith)
