-- `put_supported`: the bytes are the definition's.
use Rattle.pages.specs.Page.{page00}
use Rattle.pages.proofs.put_supported.Goals as goal

pub returns : goal.returns
unfolding page00
returns c = c.put_short.ensures
