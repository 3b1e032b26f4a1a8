-- `relative_place`: the descriptor, or none.
use mathlib.Core.Path.{sym, ◌∙◌}
use native.Mathlib.Omega.{arith}
use lib.ListN.{drop}
use Rattle.port.specs.Ports.{relative_part}
use Rattle.agreement.proofs.Laws.{agreed_none}
use Rattle.checker_drive.proofs.relative_place.Goals as goal

pub returns-then-relative_chosen : goal.returns-then-relative_chosen
unfolding relative_part
returns-then-relative_chosen c =
    rw (sym c.relative_chosen.ensures ∙ c.if-relative_chosen.true) c.bytes.ensures

pub returns : goal.returns
unfolding relative_part
returns c =
    let a = c.args in
    rw (sym c.relative_chosen.ensures ∙ c.if-relative_chosen.false) (omega (arith, agreed_none (drop a.at a.bytes.now)))
