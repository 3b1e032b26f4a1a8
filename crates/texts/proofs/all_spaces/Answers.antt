-- `all_spaces`: every byte passed is a space.
use mathlib.Core.Path.{sym}
use native.Mathlib.Omega.{arith}
use Rattle.texts.proofs.Text.{every_space, no_space_at}
use Rattle.texts.proofs.all_spaces.Goals as goal

pub returns-then-text-at-ne32 : goal.returns-then-text-at-ne32
returns-then-text-at-ne32 c =
    sym (no_space_at c.args.text.now c.loop-at.at c.loop-at-test.true c.if-text-at-ne32.true)

pub returns : goal.returns
returns c =
    sym (every_space c.args.text.now (λ k h. c.loop-at.invariant.1 k (omega arith)))
