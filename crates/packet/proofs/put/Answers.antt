-- `put`: the four first bytes, and the list with 89h beside them.
use mathlib.Core.Path.{refl}
use native.Mathlib.Omega.{arith}
use Rattle.room.proofs.Laws.{beside}
use Rattle.packet.specs.Packet.{page00}
use Rattle.packet.proofs.Laws.{length_fits}
use Rattle.packet.proofs.put.Goals as goal

pub overflow_cast-head : goal.overflow_cast-head
overflow_cast-head c =
    let byte = (c.shared_slice_known-1.given 3).fits in
    omega (arith, rw c.listed-codes.ensures at c.count-n.ensures.0, length_fits c.args.reply.now byte c.requires)

pub returns : goal.returns
unfolding page00
returns c =
    rw (← c.listed-codes.ensures, ← c.count-n.ensures.0, ← c.byte.ensures, ← c.byte-2.ensures)
    (beside c.put_short.ensures c.put_codes.ensures refl)
