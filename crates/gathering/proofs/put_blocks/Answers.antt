-- `put_blocks`: before turn i the blocks of the first i intakes stand in the room.
use Prim.Native.Nat.{◌≤◌}
use lib.ListN.{length, get_or}
use Rattle.gathering.proofs.Laws.{gather_on, all_gathered, block_at_most, each_right}
use Rattle.gathering.proofs.put_blocks.Goals as goal

pub block-block-requires : goal.block-block-requires
block-block-requires c =
    let a = c.args in
    rw c.block_at.ensures.whole (each_right a.haves.now (length a.stores.now) c.loop-i.i c.requires c.loop-i-test.true)

pub loop-i-preserved : goal.loop-i-preserved
loop-i-preserved c =
    let have = get_or c.args.haves.now c.loop-i.i 0 in
    let block : length c.block-block.result.now ≤ 512 = rw c.block-block.ensures (block_at_most have c.block_at.result.now c.block_at.ensures.whole) in
    gather_on c.loop-i.invariant c.block-block.result.now c.loop-i-test.true (rw c.block_at.ensures.block at c.block-block.ensures) block c.put.ensures

pub returns : goal.returns
returns c = all_gathered c.loop-i.invariant c.loop-i-test.false
