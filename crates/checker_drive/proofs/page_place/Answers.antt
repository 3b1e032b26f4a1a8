-- `page_place`: the head, the drive's descriptor, the ports.
use mathlib.Core.Path.{◌≡◌, refl}
use mathlib.Core.List.{◌++◌}
use Prim.Native.Nat.{◌+◌, ◌-◌}
use native.Mathlib.Omega.{arith}
use lib.ListN.{length}
use Rattle.port.specs.Ports.{relative_part, ports_part}
use Rattle.page83_drive.specs.Descriptor.{head, drive_descriptor}
use Rattle.port.specs.Helpers.{ports_size}
use Rattle.page83_drive.specs.Helpers.{drive_end}
use Rattle.page83_drive.proofs.Laws.{length_drive}
use Rattle.agreement.proofs.Laws.{reaches_within, differs_first, then_second}
use Rattle.checker_drive.specs.Ports.{address_in}
use Rattle.checker_drive.proofs.Laws.{drive_ends, told_page}
use Rattle.checker_drive.proofs.page_place.Goals as goal

pub returns-then-at-lt4 : goal.returns-then-at-lt4
returns-then-at-lt4 c =
    let block = c.args.block.now in
    let ports = c.args.ports in
    let run = c.args.bytes.now in
    let drive = rw c.requires.1 at (length_drive block c.requires.0) in
    let told : c.drive_end-end.result - 4 + c.size.result ≡ length (drive_descriptor block) + ports_size ports = omega (arith, c.drive_end-end.ensures, c.size.ensures.value, drive) in
    let address = address_in (drive_end c.args.named + length (relative_part ports)) run in
    rw (told_page block ports (drive_end c.args.named + length (relative_part ports)) run c.requires.0)
    (omega (arith, differs_first run (head (length (drive_descriptor block) + ports_size ports)) (drive_descriptor block ++ ports_part ports address) 0 4 refl (rw told at c.bytes-at.ensures) c.if-at-lt4.true))

pub drive_place-at-requires : goal.drive_place-at-requires
drive_place-at-requires c =
    (omega (arith, reaches_within c.args.bytes.now _ 0 c.bytes-at.ensures (omega arith), c.if-at-lt4.false), c.requires)

pub returns-then-at-end : goal.returns-then-at-end
returns-then-at-end c =
    let block = c.args.block.now in
    let ports = c.args.ports in
    let run = c.args.bytes.now in
    let end = c.drive_end-end.ensures in
    let drive = rw c.requires.1 at (length_drive block c.requires.0) in
    let told : c.drive_end-end.result - 4 + c.size.result ≡ length (drive_descriptor block) + ports_size ports = omega (arith, end, c.size.ensures.value, drive) in
    let address = address_in (drive_end c.args.named + length (relative_part ports)) run in
    rw (told_page block ports (drive_end c.args.named + length (relative_part ports)) run c.requires.0)
    (omega (arith, then_second run (head (length (drive_descriptor block) + ports_size ports)) (drive_descriptor block ++ ports_part ports address) 0 4 refl (rw told at c.bytes-at.ensures) c.if-at-lt4.false (differs_first run (drive_descriptor block) (ports_part ports address) 4 (drive_end c.args.named) drive c.drive_place-at.ensures (rw end at c.if-at-end.true))))

pub ports_place-requires : goal.ports_place-requires
ports_place-requires c =
    let run = c.args.bytes.now in
    (omega (arith, reaches_within run _ 4 c.drive_place-at.ensures (omega (arith, reaches_within run _ 0 c.bytes-at.ensures (omega arith), c.if-at-lt4.false)), c.if-at-end.false), omega (arith, c.drive_end-end.ensures, (drive_ends c.args.named).1))

pub returns : goal.returns
returns c =
    let block = c.args.block.now in
    let ports = c.args.ports in
    let run = c.args.bytes.now in
    let end = c.drive_end-end.ensures in
    let drive = rw c.requires.1 at (length_drive block c.requires.0) in
    let told : c.drive_end-end.result - 4 + c.size.result ≡ length (drive_descriptor block) + ports_size ports = omega (arith, end, c.size.ensures.value, drive) in
    let address = address_in (drive_end c.args.named + length (relative_part ports)) run in
    rw (told_page block ports (drive_end c.args.named + length (relative_part ports)) run c.requires.0)
    (omega (arith, then_second run (head (length (drive_descriptor block) + ports_size ports)) (drive_descriptor block ++ ports_part ports address) 0 4 refl (rw told at c.bytes-at.ensures) c.if-at-lt4.false (then_second run (drive_descriptor block) (ports_part ports address) 4 (drive_end c.args.named) drive c.drive_place-at.ensures (rw end at c.if-at-end.false) (rw end at c.ports_place.ensures))))
