-- `carries_name`: the test of the name's bytes, then what word 87 says.
use mathlib.Core.Path.{◌≡◌, ◌∙◌, ap, sym}
use mathlib.Core.Bool.{true, and-true, and-false}
use native.Mathlib.Omega.{arith}
use Rattle.identify.specs.Block.{word, name}
use Rattle.identify.specs.Names.{some_bit, says_named, carries_name}
use Rattle.identify.proofs.carries_name.Goals as goal

pub returns-then-some_bit : goal.returns-then-some_bit
unfolding carries_name
returns-then-some_bit c =
    let block = c.args.block.now in
    let some : some_bit (name block) ≡ true = ap some_bit (sym c.name.ensures) ∙ sym c.some_bit.ensures ∙ c.if-some_bit.true in
    let told : c.pair.result ≡ word block 87 = c.pair.ensures ∙ omega arith in
    rw (some, and-true) (c.says_named.ensures ∙ ap says_named told)

pub returns : goal.returns
unfolding carries_name
returns c = rw (← c.name.ensures, ← c.some_bit.ensures, c.if-some_bit.false, and-false)
