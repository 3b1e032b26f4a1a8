-- `behind_name`: by the form.
use borrow.Author.Tests.{ne_eqb}
use Rattle.page83_reader.proofs.Zero.{to_the_end}
use Rattle.page83_reader.proofs.behind_name.Goals as goal

pub returns : goal.returns
returns c = rw (ne_eqb _ _ c.if-form-eq1.false) (to_the_end 76 c.args.page.now)
