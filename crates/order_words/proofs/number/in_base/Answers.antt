-- `in_base`: what is left makes, behind the number so far, what all make.
use Rattle.std.proofs.Common.{◌≡◌, sym, ◌∙◌, arith, false, eqb, length}
use Rattle.order_words.proofs.Numbers.{no_digit, one_more, all_digits}
use Rattle.order_words.proofs.number.in_base.Goals as goal

pub loop-byte-preserved : goal.loop-byte-preserved
loop-byte-preserved c =
    let e = sym c.digit.ensures ∙ c.in_ok-digit.was in
    let n = rw (c.saturating_mul.ensures, c.from.ensures, c.from-in-loop-byte.ensures) at c.saturating_add-number.ensures in
    (c.saturating_add-number.type_inv, rw n (one_more c.args.base c.loop-byte.number c.loop-byte.byte-index c.in_ok-digit.digit c.args.text.now (omega arith) c.loop-byte-test.true e ∙ c.loop-byte.invariant.1))

pub returns-in_err-digit : goal.returns-in_err-digit
returns-in_err-digit c =
    let e : eqb (length c.args.text.now) 0 ≡ false = sym c.is_empty.ensures ∙ c.if-is_empty.false in
    let none = no_digit c.args.base c.loop-byte.number c.loop-byte.byte-index c.args.text.now c.loop-byte-test.true (sym c.digit.ensures ∙ c.in_err-digit.was) in
    rw e (c.from_residual.ensures ∙ sym none ∙ c.loop-byte.invariant.1)

pub returns : goal.returns
returns c =
    let e : eqb (length c.args.text.now) 0 ≡ false = sym c.is_empty.ensures ∙ c.if-is_empty.false in
    let some = all_digits c.args.base c.loop-byte.number c.loop-byte.byte-index c.args.text.now c.loop-byte-test.false (omega arith) in
    rw e (sym some ∙ c.loop-byte.invariant.1)
