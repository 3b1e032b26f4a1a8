-- `read_line`: the parts so far are read, and the next one starts behind them.
use Rattle.std.proofs.Common.{rules, ◌∙◌, arith, tests, length}
use Rattle.std.proofs.lemmas.List.{length_push}
use Rattle.std.proofs.lemmas.Grind.{common_steps}
use Rattle.std.proofs.lemmas.Iterator.Consumers.{YieldsList-turn, YieldsList-end}
use Rattle.order_words.specs.Words.{parts}
use Rattle.order_lines.proofs.Readings.{span_parts, one_spanned, right_part, wrong_part, no_more}
use Rattle.order_lines.proofs.Roads.{parts_road}
use Rattle.order_lines.proofs.read_line.Goals as goal

pub loop-part-init : goal.loop-part-init
loop-part-init c = record { place = omega (arith, span_parts c.args.line.now); left = search rules }

pub overflow_add-start-in-loop-part : goal.overflow_add-start-in-loop-part
overflow_add-start-in-loop-part c =
    let s = c.split-part-items.ensures in
    let turn = YieldsList-turn (parts_road _ _ c.args.line.now c.into_iter-part-iterator.ensures.into_iter_gives s.rest s.done s.closure (λ x b q k. search (rules, tests))) c.loop-part.yielded _ c.loop-part.yielded_by _ _ c.in-Some.part c.in-Some.is c.next.ensures.steps in
    omega (arith, one_spanned (parts c.args.line.now) (length c.loop-part.yielded) c.in-Some.part.now turn, c.loop-part.invariant.place)

pub loop-part-preserved : goal.loop-part-preserved
loop-part-preserved c =
    let s = c.split-part-items.ensures in
    let turn = YieldsList-turn (parts_road _ _ c.args.line.now c.into_iter-part-iterator.ensures.into_iter_gives s.rest s.done s.closure (λ x b q k. search (rules, tests))) c.loop-part.yielded _ c.loop-part.yielded_by _ _ c.in-Some.part c.in-Some.is c.next.ensures.steps in
    rw (length_push c.loop-part.yielded c.in-Some.part) record {
      place = omega (arith, one_spanned (parts c.args.line.now) (length c.loop-part.yielded) c.in-Some.part.now turn, c.loop-part.invariant.place);
      left = right_part (parts c.args.line.now) c.loop-part.values _ c.loop-part.start _ (length c.loop-part.yielded) c.in-Some.part.now turn (grind (arith, common_steps)) (omega arith) ∙ c.loop-part.invariant.left;
    }

pub returns-in-Err : goal.returns-in-Err
returns-in-Err c =
    let s = c.split-part-items.ensures in
    let turn = YieldsList-turn (parts_road _ _ c.args.line.now c.into_iter-part-iterator.ensures.into_iter_gives s.rest s.done s.closure (λ x b q k. search (rules, tests))) c.loop-part.yielded _ c.loop-part.yielded_by _ _ c.in-Some.part c.in-Some.is c.next.ensures.steps in
    wrong_part (parts c.args.line.now) c.loop-part.values c.loop-part.start (length c.loop-part.yielded) c.in-Some.part.now _ turn (grind (arith, common_steps)) ∙ c.loop-part.invariant.left

pub returns : goal.returns
returns c =
    let s = c.split-part-items.ensures in
    let end = YieldsList-end (parts_road _ _ c.args.line.now c.into_iter-part-iterator.ensures.into_iter_gives s.rest s.done s.closure (λ x b q k. search (rules, tests))) c.loop-part.yielded _ c.loop-part.yielded_by _ _ c.in-None.is c.next.ensures.steps in
    no_more (parts c.args.line.now) c.loop-part.values c.loop-part.start (length c.loop-part.yielded) (omega (arith, end.1)) ∙ c.loop-part.invariant.left
