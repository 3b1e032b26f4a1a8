-- `put_each`: byte by byte.
use mathlib.Core.Path.{refl}
use mathlib.Core.List.{map}
use native.Mathlib.Omega.{arith}
use Rattle.room.proofs.Laws.{turn, next, done}
use Rattle.texts.specs.Text.{turned}
use Rattle.texts.specs.Helpers.{shown}
use Rattle.texts.proofs.Text.{length_text}
use Rattle.texts.proofs.put_each.Goals as goal

pub loop-i-preserved : goal.loop-i-preserved
loop-i-preserved c =
    let l = c.loop-i in
    let a = c.args in
    turn l.invariant (rw c.turned_at.ensures at c.put_byte.ensures)
    (next (map (shown a.spaced) (turned a.text.now)) l.i (omega (arith, length_text (shown a.spaced) a.text.now))) refl

pub returns : goal.returns
returns c =
    let a = c.args in
    done c.loop-i.invariant (omega (arith, length_text (shown a.spaced) a.text.now))
