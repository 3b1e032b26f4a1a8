-- `step`: an intake that lacks bytes uses some of a run that has any, and where it is not complete it still lacks some.
use Rattle.std.proofs.Common.{length-take, length-drop}
use native.Mathlib.Omega.{arith}
use Rattle.intake.proofs.Step.{uses_some, still_lacks}
use Rattle.census.proofs.Counted.step.Goals as goal

pub invariant_of-self : goal.invariant_of-self
invariant_of-self c = record {
  lacks = still_lacks c.args.self.now.intake c.args.store.now c.args.run.now c.args.self.now.lacks (omega arith) c.requires _ _ c.take-took.ensures c.if-took-eq1.false;
}

pub slice_bounds-result-count : goal.slice_bounds-result-count
slice_bounds-result-count c =
    let u = uses_some c.args.self.now.intake c.args.store.now c.args.run.now c.args.self.now.lacks (omega arith) c.requires _ _ c.take-took.ensures in
    omega (arith, u, c.from.ensures)

pub slice_bounds-result-start : goal.slice_bounds-result-start
slice_bounds-result-start c =
    let u = uses_some c.args.self.now.intake c.args.store.now c.args.run.now c.args.self.now.lacks (omega arith) c.requires _ _ c.take-took.ensures in
    omega (arith, u, c.from.ensures)

pub returns-clause-rest : goal.returns-clause-rest
returns-clause-rest c =
    let u = uses_some c.args.self.now.intake c.args.store.now c.args.run.now c.args.self.now.lacks (omega arith) c.requires _ _ c.take-took.ensures in
    simp (length-take, length-drop) (omega (arith, u, c.from.ensures))
