-- `fmt`: the bytes so far are written as they are shown.
use Rattle.std.proofs.Common.{take}
use Rattle.std.specs.Fmt.{HasWritten, IsPlainFormatter}
use Rattle.std.specs.List.{flat_map}
use Rattle.texts.specs.Text.{turned, spaced}
use Rattle.output.specs.Shown.{shown}
use Rattle.labels.proofs.FieldDisplay.fmt.Given as goal

abbrev pub invariant-loop-i : goal.invariant-loop-i
invariant-loop-i g l =
    IsPlainFormatter l.initial.f → HasWritten g.W.Write.write_str_gives l.initial.f (flat_map shown (take l.i (spaced (turned l.text)))) l.f
