-- `words`: byte by byte.
use Rattle.texts.specs.Helpers.{shown}
use Rattle.text_writers.proofs.Laws.{four_words}
use Rattle.text_writers.proofs.words.Goals as goal

pub returns : goal.returns
returns c =
    rw (four_words (shown c.args.spaced) c.args.text.now c.args.i c.requires.1 c.requires.0, c.shown.ensures, c.shown-2.ensures, c.shown-3.ensures, c.shown-4.ensures, c.shown-5.ensures, c.shown-6.ensures, c.shown-7.ensures, c.shown-8.ensures)
