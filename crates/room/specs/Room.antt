-- What a write leaves in lent room (RULES 1). It is said for room of every length: what fits is stored, and nothing else changes.
-- So a reply that is cut is the page's writing in a shorter room, and the rule of a page does not know of the cut.
use Rattle.std.specs.Prelude.{◌≡◌, List, ℕ}
use Rattle.std.proofs.lemmas.List.Edits.{sets}

-- The room with the bytes of `s` stored one after the other from the place `at` on; a store past the end does nothing.
abbrev pub written : List ℕ → ℕ → List ℕ → List ℕ
written room at s = sets room at s

-- A writer that was lent `before` stored `s` from `at` on, and left `after`.
pub record Wrote (before : List ℕ) (at : ℕ) (s : List ℕ) (after : List ℕ) : Type 0 where
  pub leaves : after ≡ written before at s
