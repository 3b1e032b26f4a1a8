-- Several bays, each with a stream of its own, and what of them the roll is lent and is to see (RULES 12).
use Rattle.std.specs.Prelude.{◌≡◌, cond, List, [], ◌∷◌, ◌++◌, ℕ, leb, length, take}
use Rattle.intake.specs.Stream.{Held, begin, runs, stream}

-- One bay: the store that its intake is lent while empty, and the runs that arrive.
pub record Bay : Type 0 where
  pub store : List ℕ
  pub runs : List (List ℕ)

-- Every bay's store has 512 bytes.
unfoldable pub Stores : List Bay → Type 0
Stores [] = Unit {0}
Stores (bay ∷ bays) = (length bay.store ≡ 512) × Stores bays

-- A bay's intake after its runs.
abbrev pub end : Bay → Held
end bay = runs (begin bay.store) bay.runs

-- How many bytes each intake then has.
unfoldable pub haves_of : List Bay → List ℕ
haves_of [] = []
haves_of (bay ∷ bays) = (end bay).intake.have ∷ haves_of bays

-- The stores as they then are, one after the other.
unfoldable pub stores_of : List Bay → List ℕ
stores_of [] = []
stores_of (bay ∷ bays) = (end bay).store ++ stores_of bays

-- The block that a stream brings: its first 512 bytes, or nothing if it has fewer.
abbrev pub block_in : List ℕ → List ℕ
block_in bytes = cond (leb 512 (length bytes)) (take 512 bytes) []

-- The blocks that the bays' streams bring, one after the other.
unfoldable pub blocks_of : List Bay → List ℕ
blocks_of [] = []
blocks_of (bay ∷ bays) = block_in (stream bay.runs) ++ blocks_of bays
