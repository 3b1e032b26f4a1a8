-- `build`: refused, in the short form, or in the long one.
use borrow.Author.Rules.{rules}
use Rattle.builder.specs.Builder.{build}
use Rattle.builder.proofs.build.Goals as goal

pub returns-then-not-buildable : goal.returns-then-not-buildable
unfolding build
returns-then-not-buildable c = search rules

pub returns-then-order-eq0 : goal.returns-then-order-eq0
unfolding build
returns-then-order-eq0 c = search rules

pub returns : goal.returns
unfolding build
returns c = search rules
