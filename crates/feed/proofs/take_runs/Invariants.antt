-- `take_runs`: each run has at least its two length bytes, so that its number is within the bytes taken, and what is left falls.
use Rattle.std.proofs.Common.{◌+◌, ◌≤◌, length}
use Rattle.feed.proofs.take_runs.Given as goal

abbrev pub invariant-loop-rest : goal.invariant-loop-rest
invariant-loop-rest l = l.run + length l.rest ≤ length l.runs

abbrev pub decreases-loop-rest : goal.decreases-loop-rest
decreases-loop-rest l = length l.rest
