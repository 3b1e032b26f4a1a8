-- `serial`: 24 bytes.
use mathlib.Core.Path.{sym, ◌∙◌}
use Rattle.pages.specs.Page.{page80}
use Rattle.pages.proofs.Laws.{length_page80}
use Rattle.agreement.proofs.Same.{held_is}
use Rattle.checker.proofs.plain.serial.Goals as goal

pub returns : goal.returns
returns c =
    c.held.ensures ∙ held_is c.args.bytes.now (page80 c.args.block.now) c.serial_place.ensures (sym (length_page80 c.args.block.now c.requires))
