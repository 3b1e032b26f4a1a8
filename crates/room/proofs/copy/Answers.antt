-- `copy`: before turn i the first i bytes stand in the room, and what is left to write takes the room to where it is to be.
use native.Mathlib.Omega.{arith}
use Rattle.room.proofs.Laws.{done}
use Rattle.room.proofs.copy.Goals as goal

pub returns : goal.returns
returns c = done c.loop-i.invariant.0 (omega arith)
