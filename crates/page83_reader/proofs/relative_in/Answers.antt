-- `relative_in`: the head, then the number.
use mathlib.Core.Path.{◌∙◌, sym}
use Rattle.page83_reader.specs.Reader.{relative_in}
use Rattle.page83_reader.proofs.relative_in.Goals as goal

pub returns-then-is_port : goal.returns-then-is_port
unfolding relative_in
returns-then-is_port c =
    let head = sym (rw c.part.ensures at c.same_bytes.ensures) ∙ c.if-same_bytes.true in
    let number = rw (c.byte.ensures, c.byte-then-same_bytes.ensures) at c.pair-number.ensures in
    rw (head, ← number, sym c.is_port.ensures ∙ c.if-is_port.true)

pub returns-else-is_port : goal.returns-else-is_port
unfolding relative_in
returns-else-is_port c =
    let head = sym (rw c.part.ensures at c.same_bytes.ensures) ∙ c.if-same_bytes.true in
    let number = rw (c.byte.ensures, c.byte-then-same_bytes.ensures) at c.pair-number.ensures in
    rw (head, ← number, sym c.is_port.ensures ∙ c.if-is_port.false)

pub returns-else-same_bytes : goal.returns-else-same_bytes
unfolding relative_in
returns-else-same_bytes c = rw (sym (rw c.part.ensures at c.same_bytes.ensures) ∙ c.if-same_bytes.false)
