-- `serve_drive`: whole where nothing cuts it, and else what is to be written, where the room holds it.
use mathlib.Core.Path.{◌∙◌, sym}
use Rattle.page83.specs.Page83.{page83}
use Rattle.page83.proofs.Laws.{page_size_is}
use Rattle.inquiry_pages.proofs.Laws.{to_write, too_little, served_cut, served_whole}
use Rattle.inquiry_pages.proofs.serve_drive.Goals as goal

pub returns-then-whole-ne0 : goal.returns-then-whole-ne0
returns-then-whole-ne0 c =
    let w = c.put_whole-whole.ensures.whole c.if-whole-ne0.true in
    served_whole c.filled.ensures w.0 w.1.0 w.1.1.0 w.1.1.1

pub returns-then-room-n : goal.returns-then-room-n
returns-then-room-n c =
    let same = c.put_whole-whole.ensures.none c.if-whole-ne0.false in
    rw same (too_little (to_write (page83 c.args.block.now c.args.ports c.args.address.now) c.args.allocation c.lesser-n.ensures (page_size_is c.args.block.now c.args.ports c.args.address.now c.requires.0 c.requires.1 ∙ sym c.size.ensures)) c.no_room.ensures (rw same at c.if-room-n.true))

pub returns : goal.returns
returns c =
    let same = c.put_whole-whole.ensures.none c.if-whole-ne0.false in
    rw same (served_cut (to_write (page83 c.args.block.now c.args.ports c.args.address.now) c.args.allocation c.lesser-n.ensures (page_size_is c.args.block.now c.args.ports c.args.address.now c.requires.0 c.requires.1 ∙ sym c.size.ensures)) c.filled-2.ensures (rw same at c.put.ensures) (rw same at c.if-room-n.false))
