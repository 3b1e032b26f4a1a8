-- `store_relative`: its bytes, or none.
use mathlib.Core.Path.{refl, ◌∙◌, sym}
use native.Mathlib.Omega.{arith}
use Rattle.room.proofs.Laws.{beside}
use Rattle.port.specs.Ports.{relative_part}
use Rattle.port.proofs.Laws.{length_relative}
use Rattle.port.proofs.store_relative.Goals as goal

pub store_four-requires : goal.store_four-requires
store_four-requires c = omega (arith, rw (sym c.relative_chosen.ensures ∙ c.if-relative_chosen.true) at (length_relative c.args.ports), c.requires)

pub store_four-requires-then-relative_chosen : goal.store_four-requires-then-relative_chosen
store_four-requires-then-relative_chosen c = omega (arith, rw (sym c.relative_chosen.ensures ∙ c.if-relative_chosen.true) at (length_relative c.args.ports), c.requires)

pub returns-then-relative_chosen : goal.returns-then-relative_chosen
unfolding relative_part
returns-then-relative_chosen c = rw (sym c.relative_chosen.ensures ∙ c.if-relative_chosen.true) (record { end = refl; room = beside c.store_four.ensures c.store_four-then-relative_chosen.ensures refl })

pub returns : goal.returns
unfolding relative_part
returns c = rw (sym c.relative_chosen.ensures ∙ c.if-relative_chosen.false) (record { end = omega arith; room = record { leaves = refl } })
