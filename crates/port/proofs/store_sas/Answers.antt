-- `store_sas`: the head, and the address beside it.
use mathlib.Core.Path.{refl, ◌∙◌, sym}
use native.Mathlib.Omega.{arith}
use lib.Seq.{length-take-le, take_all}
use Rattle.room.proofs.Laws.{beside}
use Rattle.port.specs.Ports.{sas_part}
use Rattle.port.proofs.Laws.{right_address, length_sas}
use Rattle.port.proofs.store_sas.Goals as goal

pub store-requires : goal.store-requires
store-requires c = (omega (arith, rw (sym c.sas_chosen.ensures ∙ c.if-sas_chosen.true) at (length_sas c.args.ports c.args.address.now c.requires.0), c.requires.1), refl)

pub slice_bounds-store-end-then-sas_chosen : goal.slice_bounds-store-end-then-sas_chosen
slice_bounds-store-end-then-sas_chosen c = sym (length-take-le 8 c.args.address.now (omega (arith, right_address c.args.ports c.args.address.now c.requires.0 (sym c.sas_chosen.ensures ∙ c.if-sas_chosen.true))))

pub store-requires-then-sas_chosen : goal.store-requires-then-sas_chosen
store-requires-then-sas_chosen c =
    let eight = right_address c.args.ports c.args.address.now c.requires.0 (sym c.sas_chosen.ensures ∙ c.if-sas_chosen.true) in
    rw (length-take-le 8 c.args.address.now (omega (arith, eight))) (omega (arith, rw (sym c.sas_chosen.ensures ∙ c.if-sas_chosen.true) at (length_sas c.args.ports c.args.address.now c.requires.0), c.requires.1), refl)

pub returns-then-sas_chosen : goal.returns-then-sas_chosen
unfolding sas_part
returns-then-sas_chosen c =
    let chosen = sym c.sas_chosen.ensures ∙ c.if-sas_chosen.true in
    let all = take_all 8 c.args.address.now (omega (arith, right_address c.args.ports c.args.address.now c.requires.0 chosen)) in
    rw chosen (beside c.store.ensures (rw all at c.store-then-sas_chosen.ensures) refl)

pub returns-else-sas_chosen : goal.returns-else-sas_chosen
unfolding sas_part
returns-else-sas_chosen c = rw (sym c.sas_chosen.ensures ∙ c.if-sas_chosen.false) (record { leaves = refl })
