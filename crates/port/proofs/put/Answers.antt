-- `put`: the SAS port behind the relative one.
use native.Mathlib.Omega.{arith}
use Rattle.room.proofs.Laws.{beside, mid_page}
use Rattle.port.proofs.put.Goals as goal

pub returns : goal.returns
returns c =
    let r = c.put_relative-end in
    beside r.ensures.room (mid_page r.result c.lesser-behind.result c.lesser-behind.ensures c.put_sas.ensures) (omega (arith, r.ensures.end))
