-- `serve_listed`: what is to be written, where the room holds it.
use mathlib.Core.Path.{sym}
use Rattle.packet.specs.Packet.{page00}
use Rattle.inquiry_pages.proofs.Laws.{to_write, served_cut}
use Rattle.inquiry_pages.proofs.serve_listed.Goals as goal

pub returns : goal.returns
returns c =
    served_cut (to_write (page00 c.args.reply.now) c.args.allocation c.lesser-n.ensures (sym c.size.ensures)) c.filled.ensures c.put.ensures c.if-room-n.false
