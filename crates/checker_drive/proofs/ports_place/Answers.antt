-- `ports_place`: the relative port, then the SAS port.
use mathlib.Core.Path.{refl}
use Prim.Native.Nat.{◌+◌}
use native.Mathlib.Omega.{arith}
use lib.ListN.{length}
use Rattle.port.specs.Ports.{relative_part, sas_part}
use Rattle.agreement.proofs.Laws.{reaches_within, differs_first, then_second}
use Rattle.checker_drive.specs.Ports.{address_in}
use Rattle.checker_drive.proofs.Laws.{relative_most}
use Rattle.checker_drive.proofs.ports_place.Goals as goal

pub overflow_add-next : goal.overflow_add-next
overflow_add-next c =
    omega (arith, c.relative_size.ensures, relative_most c.args.ports, c.requires.1)

pub returns-then-relative-next : goal.returns-then-relative-next
returns-then-relative-next c =
    let a = c.args in
    let next = a.at + length (relative_part a.ports) in
    differs_first a.bytes.now (relative_part a.ports) (sas_part a.ports (address_in next a.bytes.now)) a.at next refl c.relative_place-relative.ensures (rw c.relative_size.ensures at c.if-relative-next.true)

pub sas_place-requires : goal.sas_place-requires
sas_place-requires c =
    let size = c.relative_size.ensures in
    (omega (arith, reaches_within c.args.bytes.now (relative_part c.args.ports) c.args.at c.relative_place-relative.ensures c.requires.0, c.if-relative-next.false), omega (arith, size, relative_most c.args.ports, c.requires.1))

pub returns : goal.returns
returns c =
    let a = c.args in
    let size = c.relative_size.ensures in
    let next = a.at + length (relative_part a.ports) in
    then_second a.bytes.now (relative_part a.ports) (sas_part a.ports (address_in next a.bytes.now)) a.at next refl c.relative_place-relative.ensures (rw size at c.if-relative-next.false) (rw size at c.sas_place.ensures)
