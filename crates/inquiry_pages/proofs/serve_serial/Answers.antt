-- `serve_serial`: what is to be written, where the room holds it.
use Rattle.pages.specs.Page.{page80}
use Rattle.pages.proofs.Laws.{length_page80}
use Rattle.inquiry_pages.proofs.Laws.{to_write, too_little, served_cut}
use Rattle.inquiry_pages.proofs.serve_serial.Goals as goal

pub returns-then-room-n : goal.returns-then-room-n
returns-then-room-n c =
    too_little (to_write (page80 c.args.block.now) c.args.allocation c.lesser-n.ensures (length_page80 c.args.block.now c.requires)) c.no_room.ensures c.if-room-n.true

pub returns : goal.returns
returns c =
    served_cut (to_write (page80 c.args.block.now) c.args.allocation c.lesser-n.ensures (length_page80 c.args.block.now c.requires)) c.filled.ensures c.put_serial.ensures c.if-room-n.false
