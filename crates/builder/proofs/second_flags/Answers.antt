-- `second_flags`: every field within its bits.
use lib.Dec.{eqb}
use Rattle.buildable.proofs.Laws.{small, flag_low, length_bits_low}
use borrow.Author.Rules.{rules}
use Rattle.builder.proofs.second_flags.Goals as goal

pub overflow_mul-quiet : goal.overflow_mul-quiet
overflow_mul-quiet c =
    let s = small c.args.order c.requires in
    search rules

pub overflow_mul-result : goal.overflow_mul-result
overflow_mul-result c =
    let s = small c.args.order c.requires in
    let f = flag_low (eqb c.args.order.direction 1) in
    search rules

pub overflow_add-result : goal.overflow_add-result
overflow_add-result c =
    let s = small c.args.order c.requires in
    let f = flag_low (eqb c.args.order.direction 1) in
    search rules

pub overflow_add-result-2 : goal.overflow_add-result-2
overflow_add-result-2 c =
    let s = small c.args.order c.requires in
    let f = flag_low (eqb c.args.order.direction 1) in
    search rules

pub overflow_add-result-3 : goal.overflow_add-result-3
overflow_add-result-3 c =
    let o = c.args.order in
    let s = small o c.requires in
    let f = flag_low (eqb o.direction 1) in
    let l = length_bits_low o.length o.count o.features in
    search rules
