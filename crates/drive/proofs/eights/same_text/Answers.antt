-- `same_text`: all parts passed are the same.
use mathlib.Core.Path.{◌≡◌, sym, ◌∙◌}
use Prim.Native.Nat.{◌+◌, ◌-◌}
use native.Mathlib.Omega.{arith}
use Rattle.texts.specs.Text.{space}
use Rattle.drive.proofs.Drive.{differ_in_part, same_within, same_more, same_whole}
use Rattle.drive.proofs.eights.same_text.Goals as goal

pub returns-then-not-same_eight : goal.returns-then-not-same_eight
returns-then-not-same_eight c =
    let at = c.lesser-at.result in
    let a = c.args in
    sym (differ_in_part space a.a.now a.b.now at (at + 8 - at) (sym c.same_eight.ensures ∙ c.if-not-same_eight.true))

pub loop-i-preserved : goal.loop-i-preserved
loop-i-preserved c =
    let l = c.loop-i in
    let at = c.lesser-at.result in
    let a = c.args in
    let e : at + 8 - at ≡ 8 = omega arith in
    let this = rw e at (sym c.same_eight.ensures ∙ c.if-not-same_eight.false) in
    let upto = same_more space a.a.now a.b.now at 8 (same_within space a.a.now a.b.now l.i at (omega arith) (omega arith) l.invariant) this in
    same_within space a.a.now a.b.now (at + 8) (l.i + 8) (omega arith) (omega arith) upto

pub returns : goal.returns
returns c =
    let a = c.args in
    sym (same_whole space a.a.now a.b.now c.loop-i.i (omega arith) (omega arith) c.loop-i.invariant)
