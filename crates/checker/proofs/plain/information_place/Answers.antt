-- `information_place`: the head, then the command code; all else is its own.
use mathlib.Core.Path.{refl}
use mathlib.Core.Bool.{false}
use mathlib.Core.List.{◌++◌}
use native.Mathlib.Omega.{arith}
use Rattle.pages.specs.Page.{information_head, information_code}
use Rattle.agreement.proofs.Laws.{differs_first}
use Rattle.checker.specs.Check.{texts_of, signature_of, block_of}
use Rattle.checker.proofs.Laws.{behind_head, to_the_block, own_page}
use Rattle.checker.proofs.plain.information_place.Goals as goal

pub returns-then-at-lt8 : goal.returns-then-at-lt8
returns-then-at-lt8 c =
    let page = c.args.page.now in
    let head = rw c.information_head-head.ensures at c.bytes-at.ensures in
    rw (own_page page c.requires) (omega (arith, differs_first page (information_head false page) (texts_of page ++ (signature_of page ++ (information_code false ++ block_of page))) 0 8 refl head c.if-at-lt8.true))

pub returns-then-at-lt60 : goal.returns-then-at-lt60
returns-then-at-lt60 c =
    let page = c.args.page.now in
    let head = rw c.information_head-head.ensures at c.bytes-at.ensures in
    let code = rw c.information_code-code.ensures at c.bytes-at-2.ensures in
    behind_head page c.requires head c.if-at-lt8.false (differs_first page (information_code false) (block_of page) 56 60 refl code c.if-at-lt60.true)

pub returns : goal.returns
returns c =
    let page = c.args.page.now in
    let head = rw c.information_head-head.ensures at c.bytes-at.ensures in
    let code = rw c.information_code-code.ensures at c.bytes-at-2.ensures in
    behind_head page c.requires head c.if-at-lt8.false (to_the_block page c.requires code c.if-at-lt60.false)
