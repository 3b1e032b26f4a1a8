-- `standard`: 36 bytes.
use mathlib.Core.Path.{sym, ◌∙◌}
use Rattle.pages.specs.Page.{standard}
use Rattle.pages.proofs.Laws.{length_standard}
use Rattle.agreement.proofs.Same.{held_is}
use Rattle.checker.proofs.plain.standard.Goals as goal

pub returns : goal.returns
returns c =
    c.held.ensures ∙ held_is c.args.bytes.now (standard c.args.block.now) c.standard_place.ensures (sym (length_standard c.args.block.now c.requires))
