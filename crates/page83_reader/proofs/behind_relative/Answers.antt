-- `behind_relative`: a port that is there has its 8 bytes.
use mathlib.Core.Path.{◌∙◌, sym}
use borrow.Author.Tests.{eq-eqb, ne_eqb}
use Rattle.page83_reader.specs.Reader.{behind_relative}
use Rattle.page83_reader.proofs.Zero.{to_the_end, relative_long}
use Rattle.page83_reader.proofs.behind_relative.Goals as goal

pub returns-then-relative-eq0 : goal.returns-then-relative-eq0
unfolding behind_relative
returns-then-relative-eq0 c = rw (eq-eqb _ 0 (sym c.requires ∙ c.if-relative-eq0.true))

pub slice_bounds-result-count : goal.slice_bounds-result-count
slice_bounds-result-count c = relative_long c.args.bytes.now (λ e. c.if-relative-eq0.false (c.requires ∙ e))

pub slice_bounds-result-start : goal.slice_bounds-result-start
slice_bounds-result-start c = relative_long c.args.bytes.now (λ e. c.if-relative-eq0.false (c.requires ∙ e))

pub returns : goal.returns
unfolding behind_relative
returns c = rw (ne_eqb _ 0 (λ e. c.if-relative-eq0.false (c.requires ∙ e))) (to_the_end 8 c.args.bytes.now)
