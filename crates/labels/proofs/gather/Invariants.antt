-- `gather`: the blocks so far that are used stand at the front of the room.
use Rattle.std.proofs.Common.{◌≡◌, ◌≤◌, take}
use Rattle.labels.specs.Label.{used}
use Rattle.labels.proofs.gather.Given as goal

abbrev pub invariant-loop-block : goal.invariant-loop-block
invariant-loop-block l = (take l.count l.room ≡ used (take l.block-index l.blocks)) × (l.count ≤ l.block-index)
