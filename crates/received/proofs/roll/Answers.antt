-- `roll`: the checks in order, then the blocks in the room, and the roll of them.
use mathlib.Core.Path.{◌∙◌, sym}
use native.Mathlib.Omega.{arith}
use lib.ListN.{length}
use borrow.Author.Tests.{lt-ltb, le-ltb}
use Rattle.room.proofs.Laws.{front}
use Rattle.gathering.specs.Gathering.{gathered}
use Rattle.gathering.proofs.Laws.{fits, length_gathered}
use Rattle.received.proofs.Laws.{roll_refused, too_many, too_few_rows, roll_damaged, roll_short, roll_served}
use Rattle.received.proofs.roll.Goals as goal

pub returns-then-wrong_run : goal.returns-then-wrong_run
returns-then-wrong_run c =
    let a = c.args in
    rw c.refused.ensures (sym (roll_refused a.haves.now a.stores.now a.room.now a.rows.now (sym c.wrong_run.ensures ∙ c.if-wrong_run.true)))

pub returns-then-count-gt64 : goal.returns-then-count-gt64
returns-then-count-gt64 c =
    let a = c.args in
    rw c.refused-then-count-gt64.ensures (sym (too_many a.haves.now a.stores.now a.room.now a.rows.now (sym c.wrong_run.ensures ∙ c.if-wrong_run.false) (lt-ltb _ _ (rw c.count_complete-count.ensures.count at c.if-count-gt64.true))))

pub returns-then-rows-count : goal.returns-then-rows-count
returns-then-rows-count c =
    let a = c.args in
    let n = c.count_complete-count.ensures.count in
    rw c.refused-then-rows-count.ensures (sym (too_few_rows a.haves.now a.stores.now a.room.now a.rows.now (sym c.wrong_run.ensures ∙ c.if-wrong_run.false) (le-ltb _ _ (rw n at c.if-count-gt64.false)) (lt-ltb _ _ (rw n at c.if-rows-count.true))))

pub returns-then-any_damaged : goal.returns-then-any_damaged
returns-then-any_damaged c =
    let a = c.args in
    let n = c.count_complete-count.ensures.count in
    rw c.refused-then-any_damaged.ensures (sym (roll_damaged a.haves.now a.stores.now a.room.now a.rows.now (sym c.wrong_run.ensures ∙ c.if-wrong_run.false) (le-ltb _ _ (rw n at c.if-count-gt64.false)) (le-ltb _ _ (rw n at c.if-rows-count.false)) (sym c.any_damaged.ensures ∙ c.if-any_damaged.true)))

pub returns-then-room-bytes : goal.returns-then-room-bytes
returns-then-room-bytes c =
    let a = c.args in
    let n = c.count_complete-count.ensures.count in
    rw c.refused-then-room-bytes.ensures (sym (roll_short a.haves.now a.stores.now a.room.now a.rows.now (sym c.wrong_run.ensures ∙ c.if-wrong_run.false) (le-ltb _ _ (rw n at c.if-count-gt64.false)) (le-ltb _ _ (rw n at c.if-rows-count.false)) (sym c.any_damaged.ensures ∙ c.if-any_damaged.false) (rw n at c.if-room-bytes.true)))

pub returns : goal.returns
returns c =
    let a = c.args in
    let right = (sym c.wrong_run.ensures ∙ c.if-wrong_run.false) in
    let n = c.count_complete-count.ensures.count in
    let enough = rw n at c.if-room-bytes.false in
    let blocks = gathered a.haves.now a.stores.now in
    let whole = length_gathered a.haves.now a.stores.now (fits a.haves.now (length a.stores.now) right) in
    rw (
      roll_served a.haves.now a.stores.now a.room.now a.rows.now right (le-ltb _ _ (rw n at c.if-count-gt64.false)) (le-ltb _ _ (rw n at c.if-rows-count.false)) (sym c.any_damaged.ensures ∙ c.if-any_damaged.false) enough,
      ← rw (c.put_blocks.ensures.leaves, n, ← whole, front a.room.now blocks (omega (arith, whole, enough))) at c.roll.ensures,
      c.put_blocks.ensures.leaves,
    )
