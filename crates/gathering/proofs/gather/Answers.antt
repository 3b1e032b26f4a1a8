-- `gather`: refused, or the blocks in the room.
use mathlib.Core.Path.{◌∙◌, sym}
use Rattle.gathering.proofs.Laws.{gather_refused, gather_damaged, gather_short, gather_served}
use Rattle.gathering.proofs.gather.Goals as goal

pub returns-then-wrong_run : goal.returns-then-wrong_run
returns-then-wrong_run c =
    let a = c.args in
    rw c.gave.ensures (sym (gather_refused a.haves.now a.stores.now a.room.now (sym c.wrong_run.ensures ∙ c.if-wrong_run.true)))

pub returns-then-any_damaged : goal.returns-then-any_damaged
returns-then-any_damaged c =
    let a = c.args in
    rw c.gave-then-any_damaged.ensures (sym (gather_damaged a.haves.now a.stores.now a.room.now (sym c.wrong_run.ensures ∙ c.if-wrong_run.false) (sym c.any_damaged.ensures ∙ c.if-any_damaged.true)))

pub returns-then-room-count : goal.returns-then-room-count
returns-then-room-count c =
    let a = c.args in
    rw c.gave-then-room-count.ensures (sym (gather_short a.haves.now a.stores.now a.room.now (sym c.wrong_run.ensures ∙ c.if-wrong_run.false) (sym c.any_damaged.ensures ∙ c.if-any_damaged.false) (rw c.count_complete-count.ensures.count at c.if-room-count.true)))

pub returns : goal.returns
returns c =
    let a = c.args in
    rw (c.gave-2.ensures, c.put_blocks.ensures.leaves, c.count_complete-count.ensures.count) (sym (gather_served a.haves.now a.stores.now a.room.now (sym c.wrong_run.ensures ∙ c.if-wrong_run.false) (sym c.any_damaged.ensures ∙ c.if-any_damaged.false) (rw c.count_complete-count.ensures.count at c.if-room-count.false)))
