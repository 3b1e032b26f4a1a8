-- `fill`: what came so far fits the buffer, which keeps its length; each word once.
use Rattle.std.proofs.Common.{◌≤◌, ◌≡◌, length}
use Rattle.input.specs.Stream.{words_left}
use Rattle.input.proofs.stream.Stream.fill.Given as goal

abbrev pub invariant-loop-filled : goal.invariant-loop-filled
invariant-loop-filled g l = (l.filled ≤ length l.buffer) × (length l.buffer ≡ length l.fn.buffer)

abbrev pub decreases-loop-filled : goal.decreases-loop-filled
decreases-loop-filled g l = words_left l.self.source
