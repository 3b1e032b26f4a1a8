-- `take`: refused, or as many bytes as it lacks.
use Rattle.std.proofs.Common.{◌≡◌, ◌-◌, length, take, sym, ◌∙◌, arith, length-take-le}
use Rattle.intake.specs.Intake.{taken}
use Rattle.laws.proofs.Laws.{cut_to_the_size}
use Rattle.intake.proofs.take.Goals as goal

pub returns-then-wrong : goal.returns-then-wrong
unfolding taken
returns-then-wrong c = rw (sym c.wrong.ensures ∙ c.if-wrong.true)

pub returns : goal.returns
unfolding taken
returns c =
    let a = c.args in
    let have = a.intake.have in
    let run = a.run.now in
    let used = c.lesser-used.result in
    let least = c.lesser-used.ensures in
    let part : take used run ≡ take (512 - have) run = rw least (cut_to_the_size (512 - have) run) in
    let count : length (take used run) ≡ used = length-take-le used run (omega (arith, least)) in
    let kept = c.keep-sum.ensures in
    rw (sym c.wrong.ensures ∙ c.if-wrong.false, ← part, count, c.flag.ensures, kept.0.leaves, kept.1)
