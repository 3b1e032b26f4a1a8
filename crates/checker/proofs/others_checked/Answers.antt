-- `others_checked`: before each field, those before it are what they are to be.
use mathlib.Core.Path.{refl, ap, ◌∙◌}
use Prim.Native.Nat.{ℕ, ◌+◌}
use native.Mathlib.Omega.{arith}
use borrow.Author.Tests.{not-true, not-false}
use Rattle.capture.proofs.Laws.{to_the_end}
use Rattle.checker.proofs.Judging.{none_judged, judge_first, judge_next, judge_fault, judge_end}
use Rattle.checker.proofs.others_checked.Goals as goal

pub returns-then-not-held : goal.returns-then-not-held
returns-then-not-held c =
    c.differs.ensures ∙ judge_fault (none_judged _ _) (omega arith) c.front_00-held.ensures (not-true _ c.if-not-held.true)

pub returns-then-not-held-2 : goal.returns-then-not-held-2
returns-then-not-held-2 c =
    let w = judge_first _ _ c.front_00-held.ensures (not-false _ c.if-not-held.false) c.taken-at.ensures.0 in
    c.differs-then-not-held-2.ensures ∙ judge_fault w (omega arith) (rw to_the_end at c.front_01-held.ensures) (not-true _ c.if-not-held-2.true)

pub returns-then-not-held-3 : goal.returns-then-not-held-3
returns-then-not-held-3 c =
    let w = judge_first _ _ c.front_00-held.ensures (not-false _ c.if-not-held.false) c.taken-at.ensures.0 in
    let w2 = judge_next w (omega arith) (rw to_the_end at c.front_01-held.ensures) (not-false _ c.if-not-held-2.false) (ap (λ (n : ℕ). c.taken-at.result + n) (rw to_the_end at c.taken.ensures.0)) in
    c.differs-then-not-held-3.ensures ∙ judge_fault w2 (omega arith) (rw to_the_end at c.front_80-held.ensures) (not-true _ c.if-not-held-3.true)

pub returns-then-not-held-4 : goal.returns-then-not-held-4
returns-then-not-held-4 c =
    let w = judge_first _ _ c.front_00-held.ensures (not-false _ c.if-not-held.false) c.taken-at.ensures.0 in
    let w2 = judge_next w (omega arith) (rw to_the_end at c.front_01-held.ensures) (not-false _ c.if-not-held-2.false) (ap (λ (n : ℕ). c.taken-at.result + n) (rw to_the_end at c.taken.ensures.0)) in
    let w3 = judge_next w2 (omega arith) (rw to_the_end at c.front_80-held.ensures) (not-false _ c.if-not-held-3.false) (ap (λ (n : ℕ). c.taken-at.result + c.taken.result + n) (rw to_the_end at c.taken-2.ensures.0)) in
    c.differs-then-not-held-4.ensures ∙ judge_fault w3 (omega arith) (rw to_the_end at c.front_83-held.ensures) (not-true _ c.if-not-held-4.true)

pub returns : goal.returns
returns c =
    let w = judge_first _ _ c.front_00-held.ensures (not-false _ c.if-not-held.false) c.taken-at.ensures.0 in
    let w2 = judge_next w (omega arith) (rw to_the_end at c.front_01-held.ensures) (not-false _ c.if-not-held-2.false) (ap (λ (n : ℕ). c.taken-at.result + n) (rw to_the_end at c.taken.ensures.0)) in
    let w3 = judge_next w2 (omega arith) (rw to_the_end at c.front_80-held.ensures) (not-false _ c.if-not-held-3.false) (ap (λ (n : ℕ). c.taken-at.result + c.taken.result + n) (rw to_the_end at c.taken-2.ensures.0)) in
    c.accepted.ensures ∙ judge_end (judge_next w3 (omega arith) (rw to_the_end at c.front_83-held.ensures) (not-false _ c.if-not-held-4.false) refl) (omega arith)
