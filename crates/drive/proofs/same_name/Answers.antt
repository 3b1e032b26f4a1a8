-- `same_name`: the names' bytes as one number each.
use mathlib.Core.Path.{◌∙◌, sym}
use native.Mathlib.Omega.{arith}
use lib.ListN.{length-take, length-drop}
use Rattle.identify.proofs.Block.{length_name}
use Rattle.drive.proofs.Number.{equal_number}
use Rattle.drive.proofs.same_name.Goals as goal

pub number-requires : goal.number-requires
number-requires c = rw c.name.ensures (simp (length-take, length-drop) (omega arith))

pub number-requires-2 : goal.number-requires-2
number-requires-2 c = rw c.name-2.ensures (simp (length-take, length-drop) (omega arith))

pub returns : goal.returns
returns c =
    let x = c.number.ensures in
    let y = c.number-2.ensures in
    let l = length_name c.args.a.now c.requires.0 ∙ sym (length_name c.args.b.now c.requires.1) in
    rw (x.value, y.value, c.name.ensures, c.name-2.ensures)
    (sym (equal_number (rw c.name.ensures at x.each) (rw c.name-2.ensures at y.each) l))
