-- `behind`: by whether 89h stands at its place.
use mathlib.Core.Path.{sym, ◌∙◌}
use mathlib.Core.Bool.{true, false}
use native.Mathlib.Nat.{add-zero}
use borrow.Author.Tests.{eq-eqb, ne_eqb}
use Rattle.packet.proofs.Laws.{split}
use Rattle.packet.proofs.behind.Goals as goal

pub returns-then-byte-clause-codes_value : goal.returns-then-byte-clause-codes_value
returns-then-byte-clause-codes_value c = let e = sym c.byte.ensures ∙ c.if-byte.true in
    split true c.args.codes.now c.requires.0 (eq-eqb _ _ e)

pub returns-clause-codes_value : goal.returns-clause-codes_value
returns-clause-codes_value c = let e = ne_eqb _ _ (λ e. c.if-byte.false (c.byte.ensures ∙ e)) in
    rw add-zero at (split false c.args.codes.now c.requires.0 e)
