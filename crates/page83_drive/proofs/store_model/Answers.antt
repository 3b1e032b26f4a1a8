-- `store_model`: two lines, and the four words behind them.
use native.Mathlib.Omega.{arith}
use Rattle.room.proofs.Laws.{begin, done}
use Rattle.texts.specs.Text.{turned, space, spaced}
use Rattle.texts.proofs.Text.{length_text}
use Rattle.text_writers.proofs.Laws.{next_piece}
use Rattle.page83_drive.proofs.store_model.Goals as goal

pub returns : goal.returns
returns c =
    let text = c.args.model.now in
    let size = c.requires.0 in
    let first = next_piece 16 text (omega (arith, size)) (begin c.args.room.now 16 (spaced (turned text))) c.store_line.ensures in
    let second = next_piece 16 text (omega (arith, size)) first c.store_line-2.ensures in
    done (next_piece 8 text (omega (arith, size)) second c.store_words.ensures) (omega (arith, size, length_text space text))
