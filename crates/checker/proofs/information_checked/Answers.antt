-- `information_checked`: one field.
use mathlib.Core.Path.{sym, ◌∙◌, ap}
use mathlib.Core.List.{[]}
use Rattle.capture.specs.Capture.{field}
use Rattle.agreement.specs.declared.Held.{Held}
use Rattle.agreement.specs.Helpers.{beside}
use Rattle.checker.specs.Check.{ours, expected, judged}
use Rattle.checker.proofs.Judging.{passed, fault}
use Rattle.checker.proofs.information_checked.Goals as goal

pub returns-then-held : goal.returns-then-held
unfolding expected ours judged beside
returns-then-held c =
    let page = c.args.information.now in
    c.accepted.ensures ∙ sym (passed page (field 0x89 page) [] (ap (λ (h : Held). h.same) (sym c.information-held.ensures) ∙ c.if-held.true))

pub returns : goal.returns
unfolding expected ours judged beside
returns c =
    let page = c.args.information.now in
    let held = c.information-held.ensures in
    rw (c.differs.ensures, held) (sym (fault page (field 0x89 page) [] (ap (λ (h : Held). h.same) (sym held) ∙ c.if-held.false)))
