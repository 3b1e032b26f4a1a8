-- No rules: names for contracts of functions below the entries.
use Rattle.std.specs.Prelude.{cond, ℕ, ◌+◌}
use Rattle.port.specs.declared.Ports.{Ports}
use Rattle.port.specs.Ports.{relative_chosen, sas_chosen}

-- The size of the ports' part.
unfoldable pub ports_size : Ports → ℕ
ports_size ports = cond (relative_chosen ports) 8 0 + cond (sas_chosen ports) 12 0
