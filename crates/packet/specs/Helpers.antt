-- No rules: names for contracts of functions below the entries.
use Rattle.std.specs.Prelude.{cond, List, [], ◌∷◌, ◌≡◌, ℕ, suc, ◌≤◌, ltb, length}

-- How many codes stand before the place of 89h.
unfoldable pub below89 : List ℕ → ℕ
below89 [] = 0
below89 (code ∷ codes) = cond (ltb code 0x89) (suc (below89 codes)) 0

-- So 89h has its place there, which is none past the end.
abbrev pub Place : List ℕ → ℕ → Type 0
Place codes at = (at ≡ below89 codes) × (at ≤ length codes)
