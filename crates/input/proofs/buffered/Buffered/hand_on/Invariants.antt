-- `hand_on`: each write takes some of what waits; what is handed on and what waits are together what they were.
use Rattle.std.proofs.Common.{◌-◌, length}
use Rattle.std.specs.Io.KnownBytes.{Keeps}
use Rattle.input.specs.Buffered.{buffered_contents}
use Rattle.input.proofs.buffered.Buffered.hand_on.Given as goal

abbrev pub invariant-loop-self : goal.invariant-loop-self
invariant-loop-self g l = Keeps (buffered_contents g.W.Write.contents l.fn.self) (buffered_contents g.W.Write.contents l.self)

abbrev pub decreases-loop-self : goal.decreases-loop-self
decreases-loop-self g l = length l.self.bytes.items - l.self.handed
