-- `beside`: the blocks so far have their rows.
use Rattle.labels.proofs.Rows.{Beside}
use Rattle.labels.proofs.beside.Given as goal

abbrev pub invariant-loop-i : goal.invariant-loop-i
invariant-loop-i l = Beside l.given l.blocks l.i l.next l.rows
