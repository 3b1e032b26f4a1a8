-- `store_spaced`: four words at a time, and the last two where the text does not end behind four.
use native.Mathlib.Omega.{arith}
use Rattle.room.proofs.Laws.{done}
use Rattle.texts.specs.Text.{space}
use Rattle.texts.proofs.Text.{length_text}
use Rattle.text_writers.proofs.Laws.{next_piece}
use Rattle.text_writers.proofs.store_spaced.Goals as goal

pub loop-i-preserved : goal.loop-i-preserved
loop-i-preserved c =
    let l = c.loop-i in
    let text = c.args.text.now in
    (next_piece 8 text (omega arith) l.invariant.0 c.store_words.ensures, (omega arith, omega arith))

pub returns-else-i-text : goal.returns-else-i-text
returns-else-i-text c = done c.loop-i.invariant.0 (omega (arith, length_text space c.args.text.now))
