-- `piongseut_submit`: where the state did not move, it is the record that was there, and no order was made.
use mathlib.Core.Path.{sym, ap, ◌∙◌}
use Rattle.passthrough.specs.Submit.{outcome as submit_outcome}
use Rattle.passthrough.specs.declared.Submitted.{Submitted}
use Rattle.passthrough.proofs.Unmoved.{submit_unmoved}
use Rattle.piongseut.proofs.piongseut_submit.Goals as goal

pub returns : goal.returns
returns c =
    let a = c.args in
    let s = c.submit-submitted in
    let same = submit_unmoved a.state.now a.command.now a.registers.now a.block.now a.declared a.edition a.form a.sense.now s.ensures c.if-submitted-p.false in
    rw c.none_taken.ensures (ap (λ (r : Submitted). submit_outcome r s.new.sense) (sym same) ∙ s.ensures)
