use Rattle.std.proofs.Common.{◌-◌, length, drop, arith, length-take}
use Rattle.input.proofs.Known.{Keeps-trans, append_known-moved, drop-next}
use Rattle.input.proofs.buffered.Buffered.hand_on.Goals as goal

pub loop-self-preserved : goal.loop-self-preserved
loop-self-preserved g c =
    let xs = c.as_slice.result.now in
    let h = c.loop-self.self.handed in
    let n = c.in_ok-n.n in
    let fits = c.in_ok-n.ensures.bound in
    let most = length-take (length xs - h) (drop h xs) in
    let next = drop-next xs c.loop-self.self.bytes.items h n c.as_slice.ensures.value (omega arith) in
    Keeps-trans _ _ _ c.loop-self.invariant (append_known-moved _ _ _ _ _ c.in_ok-n.ensures.bytes next)
