-- `ask`: by whether the board refused the command.
use borrow.Author.Tests.{eq-eqb, ne_eqb}
use Rattle.health_asked.specs.declared.Said.TheVariants.{Refused}
use Rattle.health_asked.specs.Asked.{asked}
use Rattle.health_asked.proofs.Answers.{as_promised}
use Rattle.health_asked.proofs.ask.Goals as goal

pub returns-then-number-ne0 : goal.returns-then-number-ne0
unfolding asked
returns-then-number-ne0 c =
    let p = as_promised _ _ {r = record { next = c.submit-submitted.result.next; said = Refused c.submit-submitted.result.taken.number }} (rw (← c.return_status.ensures, ← c.submit-submitted.ensures, ne_eqb _ _ c.if-number-ne0.true)) in
    record { rules = p.0; values = p.1 }

pub returns : goal.returns
unfolding asked
returns c =
    let p = as_promised _ _ {r = c.end.result} (rw (← c.return_status.ensures, ← c.submit-submitted.ensures, eq-eqb _ _ c.if-number-ne0.false) c.end.ensures) in
    record { rules = p.0; values = p.1 }
