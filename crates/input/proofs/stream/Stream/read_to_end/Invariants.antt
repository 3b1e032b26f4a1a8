-- `read_to_end`: what came so far fits the buffer, which keeps its length and what stood in front; each turn brings some more.
use Rattle.std.proofs.Common.{◌-◌, ◌≤◌, ◌≡◌, length, take}
use Rattle.input.specs.Stream.{words_left}
use Rattle.input.proofs.stream.Stream.read_to_end.Given as goal

abbrev pub invariant-loop-more : goal.invariant-loop-more
invariant-loop-more g l = (l.start ≤ l.done) × (l.done ≤ length l.buffer) × (length l.buffer ≡ length l.fn.buffer) × (take l.start l.buffer ≡ take l.start l.fn.buffer) × (words_left l.self.source ≡ words_left l.fn.self.source)

abbrev pub decreases-loop-more : goal.decreases-loop-more
decreases-loop-more g l = length l.buffer - l.done
