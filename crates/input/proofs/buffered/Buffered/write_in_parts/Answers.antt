use Rattle.std.proofs.Common.{◌-◌, ◌++◌, ◌∙◌, length, take, drop, sym, ap, subst, arith, length-take, take-take, take-add}
use Rattle.std.specs.Io.KnownBytes.{Appends}
use Rattle.input.proofs.Known.{Appends-trans}
use Rattle.input.proofs.buffered.Buffered.write_in_parts.Goals as goal

pub loop-done-preserved : goal.loop-done-preserved
loop-done-preserved g c =
    let done = c.loop-done.done in
    let n = c.in_ok-done.field-0 in
    let xs = c.args.bytes.now in
    let before = c.loop-done.invariant in
    let fits = c.in_ok-done.ensures.bound in
    let most = length-take (length xs - done) (drop done xs) in
    let joined = ap (λ l. take done xs ++ l) (take-take n (length xs - done) (drop done xs) (omega arith)) ∙ sym (take-add done n xs) in
    (omega arith, subst (Appends _ _) joined (Appends-trans _ _ _ _ _ before.1 c.in_ok-done.ensures.bytes))
