-- No rules: a name for the contract of a function below the entry.
use Rattle.std.specs.Prelude.{◌≡◌, Bool, false, not, ◌&&◌, ◌||◌, List, ℕ, eqb, length}

-- In the later edition a lent block has 512 bytes, or none where the drive gave none.
abbrev pub Lent : Bool → List ℕ → Type 0
Lent later block = (later && not (eqb (length block) 512 || eqb (length block) 0)) ≡ false
