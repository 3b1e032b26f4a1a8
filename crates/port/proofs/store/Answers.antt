-- `store`: the SAS port behind the relative one.
use Rattle.room.proofs.Laws.{beside}
use Rattle.port.proofs.store.Goals as goal

pub returns : goal.returns
returns c = beside c.store_relative-end.ensures.room c.store_sas.ensures c.store_relative-end.ensures.end
