-- What a list of numbers must be to be a list of bytes (RULES 1), and when two are the same.
use Rattle.std.specs.Prelude.{Bool, true, false, ◌&&◌, List, [], ◌∷◌, ℕ, ◌<◌, eqb}

-- Every number of the list is a byte.
pub data Bytes : List ℕ → Type 0 where
  no_more : Bytes []
  more : {byte : ℕ} {bytes : List ℕ} → byte < 0x100 → Bytes bytes → Bytes (byte ∷ bytes)

-- The same bytes, byte for byte.
unfoldable pub equal : List ℕ → List ℕ → Bool
equal [] [] = true
equal [] (b ∷ t) = false
equal (a ∷ s) [] = false
equal (a ∷ s) (b ∷ t) = eqb a b && equal s t
