-- `check`: the refusals in their order, then field by field.
use mathlib.Core.Path.{sym, ap, ◌∙◌}
use mathlib.Core.List.{[], ◌∷◌}
use borrow.Author.Tests.{eq-eqb, ne_eqb, not-true, not-false}
use Rattle.capture.specs.declared.Laid.{Laid}
use Rattle.capture.specs.Capture.{field, fields, others, layout, information}
use Rattle.checker.specs.Check.{refused}
use Rattle.checker.proofs.Judging.{two_runs, broken, packet_drives, damaged_block_is, in_order}
use Rattle.checker.proofs.check.Goals as goal

pub returns-then-not-laid : goal.returns-then-not-laid
unfolding layout
returns-then-not-laid c =
    let l = c.layout-laid.ensures in
    let fails = ap (λ (x : Laid). x.holds) (sym l) ∙ not-true _ c.if-not-laid.true in
    c.refused.ensures ∙ ap (λ (x : Laid). refused 21 x.place) l ∙ sym (broken c.args.capture.now fails)

pub information-information-requires : goal.information-information-requires
unfolding layout
information-information-requires c = ap (λ (x : Laid). x.holds) (sym c.layout-laid.ensures) ∙ not-false _ c.if-not-laid.false

pub returns-then-packet_drive : goal.returns-then-packet_drive
unfolding layout
returns-then-packet_drive c =
    let holds = ap (λ (x : Laid). x.holds) (sym c.layout-laid.ensures) ∙ not-false _ c.if-not-laid.false in
    let packet = rw (c.signature.ensures, c.information-information.ensures.bytes) at c.packet_drive.ensures in
    c.refused-then-packet_drive.ensures ∙ sym (packet_drives c.args.capture.now holds (sym packet ∙ c.if-packet_drive.true))

pub returns-then-damaged : goal.returns-then-damaged
unfolding layout
returns-then-damaged c =
    let holds = ap (λ (x : Laid). x.holds) (sym c.layout-laid.ensures) ∙ not-false _ c.if-not-laid.false in
    let packet = rw (c.signature.ensures, c.information-information.ensures.bytes) at c.packet_drive.ensures in
    let bad = rw (c.block.ensures.bytes, c.information-information.ensures.bytes) at c.damaged.ensures in
    c.refused-then-damaged.ensures ∙ sym (damaged_block_is c.args.capture.now holds (sym packet ∙ c.if-packet_drive.false) (sym bad ∙ c.if-damaged.true))

pub returns-then-others-eq0 : goal.returns-then-others-eq0
unfolding layout
returns-then-others-eq0 c =
    let capture = c.args.capture.now in
    let holds = ap (λ (x : Laid). x.holds) (sym c.layout-laid.ensures) ∙ not-false _ c.if-not-laid.false in
    let packet = rw (c.signature.ensures, c.information-information.ensures.bytes) at c.packet_drive.ensures in
    let bad = rw (c.block.ensures.bytes, c.information-information.ensures.bytes) at c.damaged.ensures in
    let first = rw c.information-information.ensures.bytes at c.others_checked-others.ensures in
    sym (in_order capture holds (sym packet ∙ c.if-packet_drive.false) (sym bad ∙ c.if-damaged.false) ∙ two_runs (information capture) (fields others capture) (field 0x89 (information capture) ∷ []) ∙ rw (← first, eq-eqb _ _ c.if-others-eq0.true))

pub returns : goal.returns
unfolding layout
returns c =
    let capture = c.args.capture.now in
    let holds = ap (λ (x : Laid). x.holds) (sym c.layout-laid.ensures) ∙ not-false _ c.if-not-laid.false in
    let packet = rw (c.signature.ensures, c.information-information.ensures.bytes) at c.packet_drive.ensures in
    let bad = rw (c.block.ensures.bytes, c.information-information.ensures.bytes) at c.damaged.ensures in
    let first = rw c.information-information.ensures.bytes at c.others_checked-others.ensures in
    let last = rw c.information-information.ensures.bytes at c.information_checked.ensures in
    last ∙ sym (in_order capture holds (sym packet ∙ c.if-packet_drive.false) (sym bad ∙ c.if-damaged.false) ∙ two_runs (information capture) (fields others capture) (field 0x89 (information capture) ∷ []) ∙ rw (← first, ne_eqb _ _ c.if-others-eq0.false))
