-- `read_line`: the parts so far are read, and the next one starts behind them.
use Rattle.std.proofs.Common.{◌≡◌, ◌+◌, length, drop}
use Rattle.order_words.specs.Words.{parts}
use Rattle.order_lines.specs.Line.{with_parts, read_line}
use Rattle.order_lines.proofs.Readings.{span}
use Rattle.order_lines.proofs.read_line.Given as goal

abbrev pub invariant-loop-part : goal.invariant-loop-part
invariant-loop-part l = record {
  place : l.start + span (drop (length l.yielded) (parts l.line)) ≡ length l.line + 1;
  left : with_parts l.values l.start (drop (length l.yielded) (parts l.line)) ≡ read_line l.line;
}
