-- Blocks that are fed one after another (RULES 14).
use Rattle.std.specs.Prelude.{◌≡◌, Bool, true, cond, ◌&&◌, not, List, [], ◌∷◌, ℕ, ◌+◌, eqb, length}
use Rattle.rules.specs.Bits.{flag}
use Rattle.checksum.specs.Checksum.{damaged}
use Rattle.tally.specs.declared.Census.{Census}
use Rattle.tally.specs.Census.{feed}

-- The census after them.
unfoldable pub feed_all : Census → List (List ℕ) → Census
feed_all c [] = c
feed_all c (block ∷ blocks) = feed_all (feed c block).next blocks

-- How many of them have a property.
unfoldable pub count_of : (List ℕ → Bool) → List (List ℕ) → ℕ
count_of has [] = 0
count_of has (block ∷ blocks) = flag (has block) + count_of has blocks

-- A block that a census can count: it has 512 bytes, and is not damaged.
unfoldable pub countable : List ℕ → Bool
countable block = eqb (length block) 512 && not (damaged block)

-- All of them are.
pub data Countable : List (List ℕ) → Type 0 where
  no_more : Countable []
  more : {block : List ℕ} {blocks : List (List ℕ)} → countable block ≡ true → Countable blocks → Countable (block ∷ blocks)

-- Those of them that are.
unfoldable pub countables : List (List ℕ) → List (List ℕ)
countables [] = []
countables (block ∷ blocks) = cond (countable block) (block ∷ countables blocks) (countables blocks)
