-- `same_texts`: the serial number first, then the model.
use native.Mathlib.Omega.{arith}
use lib.ListN.{length-take, length-drop}
use Rattle.drive.proofs.same_texts.Goals as goal

pub same_text-requires : goal.same_text-requires
same_text-requires c =
    rw (c.serial.ensures, c.serial-2.ensures)
    (simp (length-take, length-drop) (omega arith), simp (length-take, length-drop) (omega arith))

pub same_text-requires-then-same_text : goal.same_text-requires-then-same_text
same_text-requires-then-same_text c =
    rw (c.model.ensures, c.model-then-same_text.ensures)
    (simp (length-take, length-drop) (omega arith), simp (length-take, length-drop) (omega arith))
