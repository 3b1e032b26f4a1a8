-- `count`: by whether 89h stands at its place.
use mathlib.Core.Path.{sym, ◌∙◌}
use mathlib.Core.Bool.{true, false}
use native.Mathlib.Omega.{arith}
use borrow.Author.Tests.{eq-eqb, ne_eqb}
use Rattle.packet.proofs.Laws.{length_split, within}
use Rattle.packet.proofs.count.Goals as goal

pub returns-then-byte : goal.returns-then-byte
returns-then-byte c =
    let e = sym c.byte.ensures ∙ c.if-byte.true in
    let l = length_split true c.args.codes.now c.requires.0 (eq-eqb _ _ e) (omega (arith, within c.args.codes.now c.args.at 0x88 e)) in
    (omega arith, omega arith)

pub returns : goal.returns
returns c =
    let e = ne_eqb _ _ (λ e. c.if-byte.false (c.byte.ensures ∙ e)) in
    let l = length_split false c.args.codes.now c.requires.0 e (omega arith) in
    (omega arith, omega arith)
