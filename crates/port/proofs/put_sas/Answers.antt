-- `put_sas`: the head, and the address beside it.
use mathlib.Core.Path.{refl, ◌∙◌, sym}
use native.Mathlib.Omega.{arith}
use Rattle.room.proofs.Laws.{beside}
use Rattle.port.specs.Ports.{sas_part}
use Rattle.port.proofs.Laws.{right_address}
use Rattle.port.proofs.put_sas.Goals as goal

pub put_short-requires-then-sas_chosen : goal.put_short-requires-then-sas_chosen
put_short-requires-then-sas_chosen c = omega (arith, right_address c.args.ports c.args.address.now c.requires (sym c.sas_chosen.ensures ∙ c.if-sas_chosen.true))

pub returns-then-sas_chosen : goal.returns-then-sas_chosen
unfolding sas_part
returns-then-sas_chosen c = rw (sym c.sas_chosen.ensures ∙ c.if-sas_chosen.true) (beside c.put_short.ensures c.put_short-then-sas_chosen.ensures refl)

pub returns-else-sas_chosen : goal.returns-else-sas_chosen
unfolding sas_part
returns-else-sas_chosen c = rw (sym c.sas_chosen.ensures ∙ c.if-sas_chosen.false) (record { leaves = refl })
