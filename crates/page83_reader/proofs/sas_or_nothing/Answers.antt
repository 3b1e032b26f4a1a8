-- `sas_or_nothing`: by the size.
use lib.ListN.{length}
use borrow.Author.Tests.{eq-eqb, ne_eqb}
use Rattle.page83_reader.specs.Reader.{tells_sas}
use Rattle.page83_reader.proofs.sas_or_nothing.Goals as goal

pub returns-then-bytes-ne12 : goal.returns-then-bytes-ne12
unfolding tells_sas
returns-then-bytes-ne12 c = rw (ne_eqb (length c.args.bytes.now) 0 c.if-bytes-eq0.false, ne_eqb (length c.args.bytes.now) 12 c.if-bytes-ne12.true)

pub returns : goal.returns
unfolding tells_sas
returns c = rw (ne_eqb (length c.args.bytes.now) 0 c.if-bytes-eq0.false, eq-eqb (length c.args.bytes.now) 12 c.if-bytes-ne12.false) c.same_bytes.ensures
