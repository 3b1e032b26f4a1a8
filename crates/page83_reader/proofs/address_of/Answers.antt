-- `address_of`: the bytes behind the head, where there is one.
use Rattle.page83_reader.proofs.Zero.{no_sas}
use Rattle.page83_reader.proofs.address_of.Goals as goal

pub returns-else-sas-eq12 : goal.returns-else-sas-eq12
returns-else-sas-eq12 c = rw (no_sas c.args.sas.now c.requires c.if-sas-eq12.false)
