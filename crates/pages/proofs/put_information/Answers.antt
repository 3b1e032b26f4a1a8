-- `put_information`: five pieces side by side.
use mathlib.Core.Path.{refl}
use native.Mathlib.Omega.{arith}
use lib.ListN.{length-append}
use Rattle.room.proofs.Laws.{beside}
use Rattle.pages.specs.Page.{page89}
use Rattle.pages.proofs.put_information.Goals as goal

pub returns : goal.returns
unfolding page89
returns c =
    beside (beside (beside (beside (rw c.information_head-head.ensures at c.put_short.ensures) c.put_short-2.ensures refl) c.put_short-3.ensures (omega arith))
    (rw c.information_code-code.ensures at c.put_short-4.ensures) (simp length-append (omega arith))) c.put_block.ensures (simp length-append (omega arith))
