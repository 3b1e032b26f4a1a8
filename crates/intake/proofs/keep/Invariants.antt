-- `keep`: before turn i the first i bytes stand in the store, and the sum is that of a list which the sum handed in heads.
use Rattle.std.proofs.Common.{◌+◌, ◌-◌, ◌∷◌, length}
use Rattle.room.proofs.Laws.{Writing}
use Rattle.checksum.proofs.Laws.{Summing}
use Rattle.intake.proofs.keep.Given as goal

abbrev pub invariant-loop-i : goal.invariant-loop-i
invariant-loop-i l = Writing l.initial.store l.at l.bytes l.store l.i × Summing (l.before ∷ l.bytes) l.sum (l.i + 1)

abbrev pub decreases-loop-i : goal.decreases-loop-i
decreases-loop-i l = length l.bytes - l.i
