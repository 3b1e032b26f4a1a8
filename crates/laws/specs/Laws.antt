-- Laws of cutting and turning, each over lists of every length (RULES 4 and 5). A reply cut to n is `take n`.
use Rattle.std.specs.Prelude.{◌≡◌, List, map, ℕ, ◌*◌, ◌≤◌, min, length, take}
use Rattle.texts.specs.Text.{turned, spaced}

-- Cut to a and then to b is cut to the lesser; so the order does not matter.
abbrev pub CutTwice : Type 0
CutTwice = (a b : ℕ) (s : List ℕ) → take b (take a s) ≡ take (min a b) s

abbrev pub CutInEitherOrder : Type 0
CutInEitherOrder = (a b : ℕ) (s : List ℕ) → take b (take a s) ≡ take a (take b s)

-- Cut to its size or more, a reply is as it was; so the cut to n may as well stop at the size.
abbrev pub CutToMore : Type 0
CutToMore = (n : ℕ) (s : List ℕ) → length s ≤ n → take n s ≡ s

abbrev pub CutToTheSize : Type 0
CutToTheSize = (n : ℕ) (s : List ℕ) → take (min (length s) n) s ≡ take n s

-- Turned twice, a text is as it was: at odd lengths too, where the last byte stays in its place.
abbrev pub TurnedTwice : Type 0
TurnedTwice = (s : List ℕ) → turned (turned s) ≡ s

-- Zeros made spaces twice are as made once.
abbrev pub SpacedTwice : Type 0
SpacedTwice = (s : List ℕ) → spaced (spaced s) ≡ spaced s

-- Turning commutes with what is done to each byte alone, and so with making zeros spaces.
abbrev pub TurnedEach : Type 0
TurnedEach = (f : ℕ → ℕ) (s : List ℕ) → turned (map f s) ≡ map f (turned s)

abbrev pub TurnedSpaced : Type 0
TurnedSpaced = (s : List ℕ) → turned (spaced s) ≡ spaced (turned s)

-- Cut after whole words, a turned text is the cut text turned.
abbrev pub CutTurned : Type 0
CutTurned = (k : ℕ) (s : List ℕ) → take (2 * k) (turned s) ≡ turned (take (2 * k) s)
