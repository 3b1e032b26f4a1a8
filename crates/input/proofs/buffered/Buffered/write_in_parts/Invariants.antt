-- `write_in_parts`: each part takes some bytes, and what is taken so far is the front of them.
use Rattle.std.proofs.Common.{◌-◌, ◌≤◌, length, take}
use Rattle.std.specs.Io.KnownBytes.{Appends}
use Rattle.input.specs.Buffered.{buffered_contents}
use Rattle.input.proofs.buffered.Buffered.write_in_parts.Given as goal

abbrev pub invariant-loop-done : goal.invariant-loop-done
invariant-loop-done g l = (l.done ≤ length l.bytes) × Appends (buffered_contents g.W.Write.contents l.fn.self) (buffered_contents g.W.Write.contents l.self) (take l.done l.bytes)

abbrev pub decreases-loop-done : goal.decreases-loop-done
decreases-loop-done g l = length l.bytes - l.done
