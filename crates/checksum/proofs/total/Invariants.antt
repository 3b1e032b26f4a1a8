-- `total`: before turn i the first i bytes are added up.
use Rattle.std.proofs.Common.{◌-◌, length}
use Rattle.checksum.proofs.Laws.{Summing}
use Rattle.checksum.proofs.total.Given as goal

abbrev pub invariant-loop-i : goal.invariant-loop-i
invariant-loop-i l = Summing l.bytes l.sum l.i

abbrev pub decreases-loop-i : goal.decreases-loop-i
decreases-loop-i l = length l.bytes - l.i
