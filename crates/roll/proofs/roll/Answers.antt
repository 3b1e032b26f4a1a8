-- `roll`: the checks in order, then the rows of all blocks.
use mathlib.Core.Path.{◌∙◌, sym}
use borrow.Author.Tests.{eq-eqb, ne_eqb, lt-ltb, le-ltb}
use Rattle.roll.specs.Roll.{refusal_of, roll}
use Rattle.roll.proofs.roll.Goals as goal

pub returns-then-bytes-ne0 : goal.returns-then-bytes-ne0
unfolding refusal_of roll
returns-then-bytes-ne0 c = rw (ne_eqb _ _ c.if-bytes-ne0.true, c.refused.ensures)

pub returns-then-bytes-gt32768 : goal.returns-then-bytes-gt32768
unfolding refusal_of roll
returns-then-bytes-gt32768 c = rw (eq-eqb _ _ c.if-bytes-ne0.false, lt-ltb _ _ c.if-bytes-gt32768.true, c.refused-then-bytes-gt32768.ensures)

pub returns-then-rows-count : goal.returns-then-rows-count
unfolding refusal_of roll
returns-then-rows-count c = rw (eq-eqb _ _ c.if-bytes-ne0.false, le-ltb _ _ c.if-bytes-gt32768.false, lt-ltb _ _ c.if-rows-count.true, c.refused-then-rows-count.ensures)

pub returns-then-any_damaged : goal.returns-then-any_damaged
unfolding refusal_of roll
returns-then-any_damaged c = rw (eq-eqb _ _ c.if-bytes-ne0.false, le-ltb _ _ c.if-bytes-gt32768.false, le-ltb _ _ c.if-rows-count.false, sym c.any_damaged.ensures ∙ c.if-any_damaged.true, c.refused-then-any_damaged.ensures)

pub returns : goal.returns
unfolding refusal_of roll
returns c = rw (eq-eqb _ _ c.if-bytes-ne0.false, le-ltb _ _ c.if-bytes-gt32768.false, le-ltb _ _ c.if-rows-count.false, sym c.any_damaged.ensures ∙ c.if-any_damaged.false, c.put_rows-drives.ensures.room, c.put_rows-drives.ensures.drives)
