-- The intake of the block that is on its way, as a run leaves it.
use Rattle.std.specs.Prelude.{ℕ, cond, List, ◌==◌}
use Rattle.intake.specs.declared.Intake.{Intake}
use Rattle.intake.specs.declared.Took.{Took}
use Rattle.intake.specs.Intake.{empty, taken}

-- Empty behind a whole block, for the next one; else what the run made of it.
abbrev pub left : Took → Intake
left took = cond (took.complete == 1) empty took.next

-- The same of an intake, its store and a run.
abbrev pub behind : Intake → List ℕ → List ℕ → Intake
behind intake store run = left (taken intake store run).took
