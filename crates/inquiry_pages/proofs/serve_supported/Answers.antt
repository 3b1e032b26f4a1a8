-- `serve_supported`: what is to be written, where the room holds it.
use mathlib.Core.Path.{refl}
use Rattle.pages.specs.Page.{page00}
use Rattle.inquiry_pages.proofs.Laws.{to_write, too_little, served_cut}
use Rattle.inquiry_pages.proofs.serve_supported.Goals as goal

pub returns-then-room-n : goal.returns-then-room-n
unfolding page00
returns-then-room-n c =
    too_little (to_write page00 c.args.allocation c.lesser-n.ensures refl) c.no_room.ensures c.if-room-n.true

pub returns : goal.returns
unfolding page00
returns c =
    served_cut (to_write page00 c.args.allocation c.lesser-n.ensures refl) c.filled.ensures c.put_supported.ensures c.if-room-n.false
