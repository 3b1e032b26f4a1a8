-- `claims_too_much`: no intake passed claims more.
use native.Mathlib.Omega.{arith}
use borrow.Author.Tests.{lt-ltb, le-ltb}
use Rattle.gathering.proofs.Laws.{look_on, none_left}
use Rattle.gathering.proofs.claims_too_much.Goals as goal

pub returns-then-haves-i-gt512 : goal.returns-then-haves-i-gt512
returns-then-haves-i-gt512 c = rw (lt-ltb _ _ c.if-haves-i-gt512.true) at (look_on c.loop-i.invariant c.loop-i-test.true)

pub loop-i-preserved : goal.loop-i-preserved
loop-i-preserved c = record { upto = omega arith; left = rw (le-ltb _ _ c.if-haves-i-gt512.false) at (look_on c.loop-i.invariant c.loop-i-test.true) }

pub returns : goal.returns
returns c = none_left c.loop-i.invariant c.loop-i-test.false
