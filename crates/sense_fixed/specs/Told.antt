-- What sense data of either form tell (RULES 10).
use Rattle.std.specs.Prelude.{Bool, List, ℕ}

-- What stands beside key, ASC and ASCQ: nothing, or the registers that the drive left, with EXTEND.
pub data Told : Type 0 where
  nothing : Told
  registers : Bool → List ℕ → Told
