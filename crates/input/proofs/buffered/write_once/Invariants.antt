-- `write_once`: a write that is broken off took nothing.
use Rattle.std.specs.Io.KnownBytes.{Keeps}
use Rattle.input.proofs.buffered.write_once.Given as goal

abbrev pub invariant-loop : goal.invariant-loop
invariant-loop g l = Keeps (g.W.Write.contents l.fn.to) (g.W.Write.contents l.to)
