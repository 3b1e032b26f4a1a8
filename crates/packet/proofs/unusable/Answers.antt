-- `unusable`: each fault by itself makes the page unusable; where the first four are not there, the count settles it.
use mathlib.Core.Path.{sym, ◌∙◌}
use mathlib.Core.Bool.{or-true}
use native.Mathlib.Omega.{arith}
use lib.ListN.{length}
use borrow.Author.Tests.{lt-ltb, le-ltb, eq-eqb, ne_eqb}
use Rattle.packet.specs.Packet.{unusable}
use Rattle.packet.proofs.Laws.{listed_at_most, too_long}
use Rattle.packet.proofs.unusable.Goals as goal

pub returns-then-reply-lt4 : goal.returns-then-reply-lt4
unfolding unusable
returns-then-reply-lt4 c = rw (lt-ltb _ _ c.if-reply-lt4.true)

pub returns-then-byte-ne0 : goal.returns-then-byte-ne0
unfolding unusable
returns-then-byte-ne0 c = rw (ne_eqb _ _ (λ e. c.if-byte-ne0.true (c.byte.ensures ∙ e)), or-true)

pub returns-then-reply-told : goal.returns-then-reply-told
unfolding unusable
returns-then-reply-told c = rw (lt-ltb _ _ (rw c.told.ensures.0 at c.if-reply-told.true), or-true)

pub returns-then-not-rising : goal.returns-then-not-rising
unfolding unusable
returns-then-not-rising c =
    rw (← c.listed-codes.ensures, ← c.rising.ensures, c.if-not-rising.true, or-true)

pub returns-then-codes-lt255 : goal.returns-then-codes-lt255
unfolding unusable
returns-then-codes-lt255 c =
    let four = le-ltb _ _ c.if-reply-lt4.false in
    let zero = eq-eqb _ _ (sym c.byte.ensures ∙ c.if-byte-ne0.false) in
    let whole = le-ltb _ _ (rw c.told.ensures.0 at c.if-reply-told.false) in
    let rises = sym c.rising.ensures ∙ c.if-not-rising.false in
    rw (four, zero, whole, ← c.listed-codes.ensures, rises, ne_eqb (length c.listed-codes.result.now) 255 (λ e. omega arith))

pub returns : goal.returns
unfolding unusable
returns c =
    let four = le-ltb _ _ c.if-reply-lt4.false in
    let zero = eq-eqb _ _ (sym c.byte.ensures ∙ c.if-byte-ne0.false) in
    let whole = le-ltb _ _ (rw c.told.ensures.0 at c.if-reply-told.false) in
    let rises = sym c.rising.ensures ∙ c.if-not-rising.false in
    let few = rw (← c.listed-codes.ensures) at (listed_at_most c.args.reply.now) in
    rw (four, zero, whole, ← c.listed-codes.ensures, rises, c.count.ensures.0) (too_long c.listed-codes.result.now rises (omega arith))
