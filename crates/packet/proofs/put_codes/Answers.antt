-- `put_codes`: the codes before the place, and beside them 89h with the codes behind it.
use Prim.Native.Nat.{◌-◌}
use native.Mathlib.Omega.{arith}
use lib.ListN.{length, drop, length-drop}
use lib.Seq.{length-take-le, take_all}
use Rattle.room.proofs.Laws.{beside}
use Rattle.packet.proofs.put_codes.Goals as goal

pub returns : goal.returns
returns c =
    let s = c.args.codes.now in
    let l = length-take-le c.args.at s c.requires.1 in
    let m = length-drop c.behind-rest.result s in
    let rest = rw (take_all (length s - c.behind-rest.result) (drop c.behind-rest.result s) (omega arith)) at c.put-2.ensures in
    rw c.behind-rest.ensures.codes_value
    (beside c.put.ensures (beside c.put_byte.ensures rest (omega arith)) (omega arith))
