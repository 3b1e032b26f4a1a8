-- `any_damaged`: no intake passed has a damaged block.
use mathlib.Core.Path.{◌∙◌, sym}
use native.Mathlib.Omega.{arith}
use lib.ListN.{length}
use Rattle.gathering.proofs.Laws.{ask_on, none_damaged, each_right}
use Rattle.gathering.proofs.any_damaged.Goals as goal

pub block-requires : goal.block-requires
block-requires c =
    rw c.block_at.ensures.whole (each_right c.args.haves.now (length c.args.stores.now) c.loop-k.k c.requires c.loop-k-test.true)

pub returns-then-damaged : goal.returns-then-damaged
returns-then-damaged c =
    let l = c.loop-k in
    let this = rw (c.block.ensures, c.block_at.ensures.block) at (sym c.damaged.ensures ∙ c.if-damaged.true) in
    rw this at (ask_on l.invariant c.loop-k-test.true)

pub loop-k-preserved : goal.loop-k-preserved
loop-k-preserved c =
    let l = c.loop-k in
    let this = rw (c.block.ensures, c.block_at.ensures.block) at (sym c.damaged.ensures ∙ c.if-damaged.false) in
    record { upto = omega arith; left = rw this at (ask_on l.invariant c.loop-k-test.true) }

pub returns : goal.returns
returns c = none_damaged c.loop-k.invariant c.loop-k-test.false
