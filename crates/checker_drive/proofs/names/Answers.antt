-- `names`: the page of the ports that the field tells, and its size.
use mathlib.Core.Path.{◌∙◌}
use Prim.Native.Nat.{◌+◌}
use native.Mathlib.Omega.{arith}
use lib.ListN.{length}
use Rattle.identify.specs.Names.{carries_name}
use Rattle.port.specs.Ports.{relative_part}
use Rattle.page83_drive.specs.Helpers.{drive_end}
use Rattle.agreement.proofs.Same.{held_is}
use Rattle.checker_drive.specs.Ports.{ports_in, claimed_page}
use Rattle.checker_drive.proofs.Laws.{claimed_page_is, told_size}
use Rattle.checker_drive.proofs.names.Goals as goal

pub returns : goal.returns
returns c =
    let bytes = c.args.bytes.now in
    let block = c.args.block.now in
    let named = c.carries_name-named.ensures in
    let end = c.drive_end-end.ensures in
    let ports = ports_in (drive_end (carries_name block)) bytes in
    let place = rw (c.ports_in-ports.ensures, end, named) at c.page_place-place.ensures in
    let size = rw (c.ports_in-ports.ensures, end, named) at c.size.ensures.value in
    c.held.ensures ∙ held_is bytes (claimed_page block bytes) (rw (claimed_page_is block bytes c.requires) place) (rw (claimed_page_is block bytes c.requires, told_size block ports (drive_end (carries_name block) + length (relative_part ports)) bytes c.requires) (omega (arith, size, rw named at end)))
