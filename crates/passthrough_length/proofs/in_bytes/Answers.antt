-- `in_bytes`: by T_LENGTH.
use mathlib.Core.Path.{ap}
use Rattle.passthrough_fields.specs.declared.sent.Sent.{Sent}
use Rattle.passthrough_length.specs.Length.{length_of}
use Rattle.passthrough_length.proofs.Laws.{found, passed, counts, by_number}
use Rattle.passthrough_length.proofs.in_bytes.Goals as goal

pub returns-then-t-eq0 : goal.returns-then-t-eq0
unfolding length_of
returns-then-t-eq0 c = search by_number depth 8

pub returns-then-t-eq1 : goal.returns-then-t-eq1
unfolding length_of
returns-then-t-eq1 c =
    let t = c.t_length-t.ensures in
    passed 0 _ _ _ t c.if-t-eq0.false (found 1 _ _ _ t c.if-t-eq1.true (counts _ _ _ _ c.byte_block-blocks.ensures (ap (λ (s : Sent). s.features) c.requires.2) c.counted.ensures))

pub returns-then-t-eq2 : goal.returns-then-t-eq2
unfolding length_of
returns-then-t-eq2 c =
    let t = c.t_length-t.ensures in
    passed 0 _ _ _ t c.if-t-eq0.false (passed 1 _ _ _ t c.if-t-eq1.false (found 2 _ _ _ t c.if-t-eq2.true (counts _ _ _ _ c.byte_block-blocks.ensures (ap (λ (s : Sent). s.count) c.requires.2) c.counted-then-t-eq2.ensures)))

pub returns : goal.returns
unfolding length_of
returns c = search by_number depth 8
