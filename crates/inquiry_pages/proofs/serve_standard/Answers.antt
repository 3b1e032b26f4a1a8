-- `serve_standard`: what is to be written, where the room holds it.
use Rattle.pages.specs.Page.{standard}
use Rattle.pages.proofs.Laws.{length_standard}
use Rattle.inquiry_pages.proofs.Laws.{to_write, too_little, served_cut}
use Rattle.inquiry_pages.proofs.serve_standard.Goals as goal

pub returns-then-room-n : goal.returns-then-room-n
returns-then-room-n c =
    too_little (to_write (standard c.args.block.now) c.args.allocation c.lesser-n.ensures (length_standard c.args.block.now c.requires)) c.no_room.ensures c.if-room-n.true

pub returns : goal.returns
returns c =
    served_cut (to_write (standard c.args.block.now) c.args.allocation c.lesser-n.ensures (length_standard c.args.block.now c.requires)) c.filled.ensures c.put_standard.ensures c.if-room-n.false
