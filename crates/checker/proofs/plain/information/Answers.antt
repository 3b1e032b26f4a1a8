-- `information`: 572 bytes.
use mathlib.Core.Path.{◌∙◌, sym}
use mathlib.Core.Bool.{false}
use Rattle.pages.specs.Page.{page89}
use Rattle.agreement.proofs.Same.{held_is}
use Rattle.checker.specs.Check.{texts_of, signature_of, block_of}
use Rattle.checker.proofs.Laws.{length_own}
use Rattle.checker.proofs.plain.information.Goals as goal

pub returns : goal.returns
returns c =
    let page = c.args.page.now in
    c.held.ensures ∙ held_is page (page89 false (texts_of page) (signature_of page) (block_of page)) c.information_place.ensures (sym (length_own page c.requires))
