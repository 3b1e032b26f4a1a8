-- `command`: the bytes so far, with a space behind each; 16 bytes fill the line.
use Rattle.std.proofs.Common.{◌≡◌, sym, ℕ, ◌*◌, ◌≤◌, List, take, ap, arith, length, length-take, append_assoc}
use Rattle.std.proofs.lemmas.List.{take_all}
use Rattle.order_shown.proofs.Shows.{spaced, length_spaced, spaced_to_last}
use Rattle.order_shown.proofs.command.Goals as goal

room : (line front : List ℕ) (i : ℕ) → line ≡ spaced (take i front) → i ≤ length front → length line ≡ 3 * i
room line front i e h = omega (arith, ap length e, length_spaced (take i front), length-take i front, h)

pub put-requires-clause-room : goal.put-requires-clause-room
put-requires-clause-room c = let s = c.in-Some.ensures.cases in
    let l = room c.loop-byte.line.bytes c.in-Some.front.now c.loop-byte.byte-index c.loop-byte.invariant c.loop-byte.auto.byte-index-end in
    omega (arith, l, s.1, c.requires, c.loop-byte-test.true)

pub put-requires-2-clause-room : goal.put-requires-2-clause-room
put-requires-2-clause-room c = let s = c.in-Some.ensures.cases in
    let l = room c.loop-byte.line.bytes c.in-Some.front.now c.loop-byte.byte-index c.loop-byte.invariant c.loop-byte.auto.byte-index-end in
    omega (arith, l, s.1, c.requires, c.loop-byte.auto.byte-index-end)

pub returns : goal.returns
returns c = let front = c.in-Some.front.now in
    let so_far = rw (take_all c.loop-byte.byte-index front c.loop-byte-test.false) at c.loop-byte.invariant in
    rw (c.put-2.ensures, c.shown_byte-2.ensures, so_far, c.in-Some.ensures.cases.0, spaced_to_last front c.in-Some.last.now) (sym (append_assoc (spaced front) _ _))
