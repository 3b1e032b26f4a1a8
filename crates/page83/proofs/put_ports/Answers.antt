-- `put_ports`: behind the place, where there is anything to write.
use mathlib.Core.Path.{refl, ◌∙◌, sym}
use Rattle.room.proofs.Laws.{mid_page}
use Rattle.port.proofs.Laws.{nothing_chosen}
use Rattle.page83.proofs.put_ports.Goals as goal

pub returns-then-chosen : goal.returns-then-chosen
returns-then-chosen c = mid_page c.args.end c.lesser-behind.result c.lesser-behind.ensures c.put.ensures

pub returns-else-chosen : goal.returns-else-chosen
returns-else-chosen c =
    let a = c.args in
    rw (nothing_chosen a.ports a.address.now (sym c.chosen.ensures ∙ c.if-chosen.false)) (record { leaves = refl })
