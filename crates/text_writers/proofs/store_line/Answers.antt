-- `store_line`: two words, and the others beside them, two at a time.
use mathlib.Core.Path.{refl}
use Prim.Native.Nat.{◌+◌}
use native.Mathlib.Omega.{arith}
use Rattle.room.proofs.Laws.{beside}
use Rattle.texts.specs.Text.{space}
use Rattle.text_writers.proofs.Laws.{four_words}
use Rattle.text_writers.proofs.store_line.Goals as goal

pub returns : goal.returns
returns c =
    let text = c.args.text.now in
    let first = four_words space text c.args.i c.requires.1.1 (omega (arith, c.requires.1.0)) in
    let second = four_words space text (c.args.i + 8) (omega (arith, c.requires.1.1)) (omega (arith, c.requires.1.0)) in
    let w = rw first at c.words-a.ensures in
    let x = rw second at c.words-b.ensures in
    rw (first, second) (
    beside (beside (beside (rw w at c.store_four.ensures) (rw w at c.store_four-2.ensures) refl)
    (rw x at c.store_four-3.ensures) refl) (rw x at c.store_four-4.ensures) refl)
