-- `supported`: one piece.
use mathlib.Core.Path.{refl, ◌∙◌}
use native.Mathlib.Omega.{arith}
use Rattle.pages.specs.Page.{page00}
use Rattle.agreement.proofs.Same.{held_is}
use Rattle.checker.proofs.plain.supported.Goals as goal

pub returns : goal.returns
unfolding page00
returns c =
    c.held.ensures ∙ held_is c.args.bytes.now page00 (omega (arith, c.bytes.ensures)) refl
