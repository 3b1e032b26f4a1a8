-- `command`: the bytes so far, with a space behind each.
use Rattle.std.proofs.Common.{◌≡◌, take}
use Rattle.order_shown.proofs.Shows.{spaced}
use Rattle.order_shown.proofs.command.Given as goal

abbrev pub invariant-loop-byte : goal.invariant-loop-byte
invariant-loop-byte l = l.line.bytes ≡ spaced (take l.byte-index l.front)
