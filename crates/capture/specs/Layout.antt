-- What the layout of a capture is, said of its fields (RULES 15.1).
use Rattle.std.specs.Prelude.{◌≡◌, ◌⊎◌, List, [], ◌∷◌, ◌++◌, ℕ, suc, ◌≤◌, ◌<◌, length}
use Rattle.capture.specs.Capture.{Field, field, encoded, captured}

-- The tags: page 00h, standard data, pages 80h, 83h and 89h.
abbrev pub Known : ℕ → Type 0
Known tag = (tag ≡ 0x00) ⊎ (tag ≡ 0x01) ⊎ (tag ≡ 0x80) ⊎ (tag ≡ 0x83) ⊎ (tag ≡ 0x89)

-- A field that may stand in a capture: its tag is one of these, two bytes tell its length, and 89h has 572 bytes.
pub record Right (f : Field) : Type 0 where
  pub known : Known f.tag
  pub two_bytes : length f.bytes < 0x10000
  pub whole_89h : f.tag ≡ 0x89 → length f.bytes ≡ 572

-- Such fields, their tags rising from a least one on.
pub data Rising : ℕ → List Field → Type 0 where
  no_more : {least : ℕ} → Rising least []
  more : {least : ℕ} {f : Field} {fs : List Field} → least ≤ f.tag → Right f → Rising (suc f.tag) fs → Rising least (f ∷ fs)

-- The layout holds: the capture is such fields one behind the other, the last of them page 89h.
pub record LaidOut (capture : List ℕ) (before : List Field) (page : List ℕ) : Type 0 where
  pub all : capture ≡ captured (before ++ (field 0x89 page ∷ []))
  pub rising : Rising 0 (before ++ (field 0x89 page ∷ []))

-- It does not hold, and is broken at a place: up to there the capture is such fields, and at it stands none that could follow them.
pub record BrokenAt (capture : List ℕ) (place : ℕ) : Type 0 where
  pub before : List Field
  pub rest : List ℕ
  pub all : capture ≡ captured before ++ rest
  pub up_to_there : length (captured before) ≡ place
  pub rising : Rising 0 before
  pub none_follows : (f : Field) (behind : List ℕ) → rest ≡ encoded f ++ behind → Rising 0 (before ++ (f ∷ [])) → ⊥
  pub not_laid_out : (others : List Field) (page : List ℕ) → LaidOut capture others page → ⊥
