-- `put_number`: the digits before the last one, and the last one.
use Rattle.std.proofs.Common.{arith}
use Rattle.std.proofs.lemmas.Fmt.{decimal_digit, decimal_step}
use Rattle.std.proofs.lemmas.Grind.{common_steps}
use Rattle.order_shown.proofs.Shows.{digits_step}
use Rattle.order_shown.proofs.+put_number.Goals as goal

pub put_number-requires : goal.put_number-requires
put_number-requires t c = let l = digits_step c.args.number c.if-number-lt10.false (omega arith) in
    (omega (arith, c.decreases, c.if-number-lt10.false), omega (arith, l, c.requires))

pub push-requires : goal.push-requires
push-requires t c = grind (arith, common_steps, decimal_digit)

pub returns-then-number-lt10 : goal.returns-then-number-lt10
returns-then-number-lt10 t c = grind (arith, common_steps, decimal_digit)

pub push-requires-2 : goal.push-requires-2
push-requires-2 t c = let l = digits_step c.args.number c.if-number-lt10.false (omega arith) in grind (arith, common_steps, l)

pub returns : goal.returns
returns t c = let e = decimal_step c.args.number c.if-number-lt10.false (omega arith) in grind (arith, common_steps, e)
