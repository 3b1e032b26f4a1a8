-- `word_of`: by what is wrong with the word.
use Rattle.std.proofs.Common.{rules, ◌+◌}
use Rattle.order_lines.specs.Line.{word_of}
use Rattle.order_lines.proofs.Readings.{rest_is}
use Rattle.order_lines.proofs.word_of.Goals as goal

pub returns-in_err-value-clause-says : goal.returns-in_err-value-clause-says
unfolding word_of
returns-in_err-value-clause-says c =
    let v = rw (rest_is c.args.word.now (c.in_ok-size.size + 1)) at c.value_of.ensures in
    search rules

pub returns-then-limit-value-clause-says : goal.returns-then-limit-value-clause-says
unfolding word_of
returns-then-limit-value-clause-says c =
    let v = rw (rest_is c.args.word.now (c.in_ok-size.size + 1)) at c.value_of.ensures in
    search rules

pub returns-clause-says : goal.returns-clause-says
unfolding word_of
returns-clause-says c =
    let v = rw (rest_is c.args.word.now (c.in_ok-size.size + 1)) at c.value_of.ensures in
    search rules
