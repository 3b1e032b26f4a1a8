-- How far two runs of bytes agree (RULES 15).
use Rattle.std.specs.Prelude.{cond, List, [], ◌∷◌, ℕ, suc, eqb}

-- The length of their common front: the place of the first byte in which they differ, or the shorter length where one is the start of
-- the other.
unfoldable pub agreed : List ℕ → List ℕ → ℕ
agreed [] t = 0
agreed (a ∷ s) [] = 0
agreed (a ∷ s) (b ∷ t) = cond (eqb a b) (suc (agreed s t)) 0
