-- `piongseut_complete`: where the state moved, the record is the next one; else it is the record that was there.
use mathlib.Core.Path.{sym, ap, ◌∙◌}
use Rattle.passthrough.specs.Complete.{outcome as complete_outcome}
use Rattle.passthrough.specs.declared.Pending.{Pending}
use Rattle.passthrough.proofs.Unmoved.{complete_unmoved}
use Rattle.piongseut.proofs.piongseut_complete.Goals as goal
use Rattle.piongseut.proofs.piongseut_complete.Goals.{then-completed-p, else-completed-p}

pub returns : goal.returns
returns c =
    let a = c.args in
    let s = c.complete-completed in
    elim c.if-completed-p.branch [
      | then-completed-p w ↦ rw w.state-is s.ensures
      | else-completed-p w ↦
          rw w.state-is (
          ap (λ (p : Pending). complete_outcome (record { next = p; ended = s.result.ended }) s.new.sense)
          (sym (complete_unmoved a.state.now a.registers.now a.form a.sense.now s.ensures w.if-completed-p.false))
          ∙ s.ensures
          )
    ]
