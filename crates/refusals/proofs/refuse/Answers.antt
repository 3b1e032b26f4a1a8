-- `refuse`: the key says what is written and which status it is.
use mathlib.Core.Path.{◌≡◌, ◌∙◌, sym, ap}
use mathlib.Core.List.{List}
use Prim.Native.Nat.{ℕ}
use lib.ListN.{get_or}
use borrow.Author.Tests.{eq-eqb, ne_eqb}
use Rattle.refusals.specs.Refusal.{row_of}
use Rattle.refusals.proofs.Table.{checks, writes, writes_nothing, busy_or_none}
use Rattle.refusals.proofs.refuse.Goals as goal

pub returns-then-row-ne0-clause-status : goal.returns-then-row-ne0-clause-status
returns-then-row-ne0-clause-status c = let number = c.args.number in
    let e = c.code-row.ensures in
    let key : get_or c.code-row.result 0 0 ≡ (row_of number).key = ap (λ (l : List ℕ). get_or l 0 0) e in
    let some : (row_of number).key ≡ 0 → ⊥ = λ z. c.if-row-ne0.true (key ∙ z) in
    sym (checks number some)

pub returns-then-row-ne0-clause-sense : goal.returns-then-row-ne0-clause-sense
returns-then-row-ne0-clause-sense c = let number = c.args.number in
    let e = c.code-row.ensures in
    let key : get_or c.code-row.result 0 0 ≡ (row_of number).key = ap (λ (l : List ℕ). get_or l 0 0) e in
    let some : (row_of number).key ≡ 0 → ⊥ = λ z. c.if-row-ne0.true (key ∙ z) in
    rw e at c.put_code.ensures.leaves ∙ sym (writes number _ _ some)

pub returns-then-number-eq10-clause-status : goal.returns-then-number-eq10-clause-status
returns-then-number-eq10-clause-status c = let number = c.args.number in
    let none : (row_of number).key ≡ 0 = ap (λ (l : List ℕ). get_or l 0 0) (sym c.code-row.ensures) ∙ c.if-row-ne0.false in
    rw (busy_or_none number none, eq-eqb number 10 c.if-number-eq10.true)

pub returns-then-number-eq10-clause-sense : goal.returns-then-number-eq10-clause-sense
returns-then-number-eq10-clause-sense c = let number = c.args.number in
    let none : (row_of number).key ≡ 0 = ap (λ (l : List ℕ). get_or l 0 0) (sym c.code-row.ensures) ∙ c.if-row-ne0.false in
    sym (writes_nothing number _ _ none)

pub returns-clause-status : goal.returns-clause-status
returns-clause-status c = let number = c.args.number in
    let none : (row_of number).key ≡ 0 = ap (λ (l : List ℕ). get_or l 0 0) (sym c.code-row.ensures) ∙ c.if-row-ne0.false in
    rw (busy_or_none number none, ne_eqb number 10 c.if-number-eq10.false)

pub returns-clause-sense : goal.returns-clause-sense
returns-clause-sense c = let number = c.args.number in
    let none : (row_of number).key ≡ 0 = ap (λ (l : List ℕ). get_or l 0 0) (sym c.code-row.ensures) ∙ c.if-row-ne0.false in
    sym (writes_nothing number _ _ none)
