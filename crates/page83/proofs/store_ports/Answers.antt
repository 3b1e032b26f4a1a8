-- `store_ports`: the length put again, and the ports behind the page, where any is chosen.
use mathlib.Core.Path.{◌≡◌, ◌∙◌, sym}
use mathlib.Core.List.{append-nil}
use native.Mathlib.Omega.{arith}
use lib.ListN.{length}
use Rattle.room.proofs.Laws.{beside}
use Rattle.port.proofs.Laws.{length_ports, nothing_chosen, nothing_sized}
use Rattle.page83.proofs.Laws.{head_again}
use Rattle.page83.proofs.store_ports.Goals as goal

pub store-requires : goal.store-requires
store-requires c = (c.requires.0, omega (arith, c.requires.1.1, length_ports c.args.ports c.args.address.now c.requires.0))

pub returns-then-chosen : goal.returns-then-chosen
returns-then-chosen c =
    λ before drive e l w.
    beside (head_again (omega (arith, c.requires.1.0, c.requires.1.1)) w c.put_byte.ensures) c.store.ensures (omega (arith, e))

pub returns-else-chosen : goal.returns-else-chosen
returns-else-chosen c =
    let a = c.args in
    let none = sym c.chosen.ensures ∙ c.if-chosen.false in
    λ before drive e l w.
    let same : a.behind ≡ length drive = omega (arith, l, nothing_sized a.ports none) in
    rw (nothing_chosen a.ports a.address.now none, append-nil drive, same) w
