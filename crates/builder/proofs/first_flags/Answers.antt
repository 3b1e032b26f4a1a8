-- `first_flags`: every field within its bits.
use Rattle.buildable.proofs.Laws.{small}
use borrow.Author.Rules.{rules}
use Rattle.builder.proofs.first_flags.Goals as goal

pub overflow_mul-result : goal.overflow_mul-result
overflow_mul-result c =
    let s = small c.args.order c.requires in
    search rules

pub overflow_mul-result-2 : goal.overflow_mul-result-2
overflow_mul-result-2 c =
    let s = small c.args.order c.requires in
    search rules

pub overflow_add-result : goal.overflow_add-result
overflow_add-result c =
    let s = small c.args.order c.requires in
    search rules

pub overflow_add-result-2 : goal.overflow_add-result-2
overflow_add-result-2 c =
    let s = small c.args.order c.requires in
    search rules
