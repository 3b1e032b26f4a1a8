-- `headed`: the length, then the other bytes.
use mathlib.Core.Path.{◌∙◌, sym}
use mathlib.Core.Bool.{and-true}
use borrow.Author.Tests.{eq-eqb}
use Rattle.page83_reader.proofs.Zero.{headed_by_bytes, too_short, other_length}
use Rattle.page83_reader.proofs.headed.Goals as goal

pub returns-then-page-lt4 : goal.returns-then-page-lt4
returns-then-page-lt4 c = sym (too_short c.args.page.now c.if-page-lt4.true)

pub returns-then-page-byte : goal.returns-then-page-byte
returns-then-page-byte c = sym (other_length c.args.page.now (λ e. c.if-page-byte.true (e ∙ sym c.byte.ensures)))

pub returns : goal.returns
returns c =
    let page = c.args.page.now in
    rw (headed_by_bytes page c.if-page-lt4.false, eq-eqb _ _ (sym (c.if-page-byte.false ∙ c.byte.ensures)), and-true)
