-- `refusal`: its number has three digits at most.
use Rattle.std.proofs.Common.{arith}
use Rattle.std.proofs.lemmas.Fmt.{length-decimal-le}
use Rattle.std.proofs.lemmas.Grind.{common_steps}
use Rattle.order_shown.proofs.refusal.Goals as goal

pub put_number-requires : goal.put_number-requires
put_number-requires c = let few = length-decimal-le 3 c.args.number (omega arith) (omega arith) (omega arith) in
    grind (arith, common_steps, few)

pub push-requires : goal.push-requires
push-requires c = let few = length-decimal-le 3 c.args.number (omega arith) (omega arith) (omega arith) in
    grind (arith, common_steps, few)
