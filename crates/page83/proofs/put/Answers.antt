-- `put`: by whether the block carries a name, and the ports beside it.
use mathlib.Core.Path.{◌∙◌, sym}
use Rattle.room.proofs.Laws.{beside}
use Rattle.page83_drive.proofs.Laws.{named_end, unnamed_end}
use Rattle.page83.proofs.Laws.{named_page, unnamed_page}
use Rattle.page83.proofs.put.Goals as goal

pub returns-then-carries_name : goal.returns-then-carries_name
returns-then-carries_name c =
    let block = c.args.block.now in
    rw (named_page block c.args.ports c.args.address.now c.requires.0 c.requires.1 (sym c.carries_name.ensures ∙ c.if-carries_name.true), ← c.size.ensures.value)
    (beside c.put_name.ensures c.put_ports.ensures (named_end block c.requires.0))

pub returns : goal.returns
returns c =
    let block = c.args.block.now in
    rw (unnamed_page block c.args.ports c.args.address.now c.requires.0 c.requires.1 (sym c.carries_name.ensures ∙ c.if-carries_name.false), ← c.size-2.ensures.value)
    (beside c.put_texts.ensures c.put_ports-2.ensures (unnamed_end block c.requires.0))
