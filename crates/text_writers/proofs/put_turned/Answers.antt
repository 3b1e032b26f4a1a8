-- `put_turned`: whole where it fits, else byte by byte.
use Rattle.texts.proofs.Text.{shown_as_it_is}
use Rattle.text_writers.proofs.put_turned.Goals as goal

pub returns : goal.returns
returns c = rw shown_as_it_is at c.put_each.ensures
