-- `serve_information`: what is to be written, where the room holds it.
use mathlib.Core.Path.{◌∙◌, sym}
use Rattle.pages.specs.Page.{page89}
use Rattle.pages.proofs.Laws.{length_page89}
use Rattle.inquiry_pages.proofs.Laws.{to_write, too_little, served_cut}
use Rattle.inquiry_pages.proofs.serve_information.Goals as goal

pub returns-then-room-n : goal.returns-then-room-n
returns-then-room-n c =
    too_little (to_write (page89 c.args.packet c.args.texts.now c.args.signature.now c.args.block.now) c.args.allocation c.lesser-n.ensures (length_page89 c.args.packet c.args.texts.now c.args.signature.now c.args.block.now c.requires.0 c.requires.1.0 ∙ sym c.information_size.ensures)) c.no_room.ensures c.if-room-n.true

pub returns : goal.returns
returns c =
    served_cut (to_write (page89 c.args.packet c.args.texts.now c.args.signature.now c.args.block.now) c.args.allocation c.lesser-n.ensures (length_page89 c.args.packet c.args.texts.now c.args.signature.now c.args.block.now c.requires.0 c.requires.1.0 ∙ sym c.information_size.ensures)) c.filled.ensures c.put_information.ensures c.if-room-n.false
