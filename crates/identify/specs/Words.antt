-- A block's words in a row, as numbers (RULES 5).
use Rattle.std.specs.Prelude.{◌≡◌, true, List, [], ◌∷◌, ℕ, zero, suc, ◌/◌, ◌%◌, ◌≤◌}
use Rattle.identify.specs.Block.{word}
use Rattle.identify.specs.Names.{says_named}

-- Words `first`, `first` + 1 and so on, n of them.
unfoldable pub words_from : ℕ → ℕ → List ℕ → List ℕ
words_from first zero block = []
words_from first (suc n) block = word block first ∷ words_from (suc first) n block

-- Each word as two bytes, the low one first.
unfoldable pub in_bytes : List ℕ → List ℕ
in_bytes [] = []
in_bytes (w ∷ ws) = w % 0x100 ∷ w / 0x100 ∷ in_bytes ws

-- From `first` to `last`, every word of one block is the other's.
abbrev pub SameWords : ℕ → ℕ → List ℕ → List ℕ → Type 0
SameWords first last a b = (w : ℕ) → first ≤ w → w ≤ last → word a w ≡ word b w

-- From `first` to `last`, some word is not zero.
abbrev pub SomeWord : ℕ → ℕ → List ℕ → Type 0
SomeWord first last block = (w : ℕ) × (first ≤ w) × (w ≤ last) × (word block w ≡ 0 → ⊥)

-- From `first` to `last`, every word is zero.
abbrev pub NoWord : ℕ → ℕ → List ℕ → Type 0
NoWord first last block = (w : ℕ) → first ≤ w → w ≤ last → word block w ≡ 0

-- A block with a name: word 87 says so, and words 108 to 111 are not all zero; and one without: they are, wherever word 87 says so.
abbrev pub Named : List ℕ → Type 0
Named block = (says_named (word block 87) ≡ true) × SomeWord 108 111 block

abbrev pub Nameless : List ℕ → Type 0
Nameless block = says_named (word block 87) ≡ true → NoWord 108 111 block
