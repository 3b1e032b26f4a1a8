-- `read`: each word once, and the buffer keeps its length.
use Rattle.input.specs.Stream.{words_left}
use Rattle.input.proofs.stream.Stream.read.Given as goal

abbrev pub decreases-loop-n : goal.decreases-loop-n
decreases-loop-n g l = words_left l.self.source
