-- `in_base`: what is left makes, behind the number so far, what all make.
use Rattle.std.proofs.Common.{◌≡◌, ◌^◌, ◌<◌, drop}
use Rattle.order_words.specs.Number.{worth, held}
use Rattle.order_words.proofs.number.in_base.Given as goal

abbrev pub invariant-loop-byte : goal.invariant-loop-byte
invariant-loop-byte l =
    (l.number < 2 ^ 64) × (held (worth l.base l.number (drop l.byte-index l.text)) ≡ held (worth l.base 0 l.text))
