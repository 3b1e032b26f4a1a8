-- Laws of turned and spaced texts, each over texts of every length.
use mathlib.Core.Path.{◌≡◌, refl, ap, ◌∙◌, sym}
use mathlib.Core.Bool.{Bool, true, false, cond, and-false}
use mathlib.Core.List.{List, [], ◌∷◌, map}
use Prim.Native.Nat.{ℕ, zero, suc, ◌+◌, ◌-◌, ◌*◌, ◌%◌, ◌<◌, ◌≤◌}
use native.Mathlib.Nat.{le_of_suc-le-suc, not-suc-le-zero}
use native.Mathlib.Omega.{arith}
use lib.ListN.{length, get_or, take, drop, length-map, length-take, length-drop}
use borrow.Author.Tests.{eq-eqb, ne_eqb}
use Rattle.texts.specs.Text.{turned, space, spaced, all_spaces, revision_part, revision}
use Rattle.texts.specs.Helpers.{shown}

-- Turning keeps the length, and so does making zeros spaces.
pub length_turned : (s : List ℕ) → length (turned s) ≡ length s
unfolding turned
length_turned [] = refl
length_turned (a ∷ []) = refl
length_turned (a ∷ b ∷ s) = ap (λ (n : ℕ). suc (suc n)) (length_turned s)

pub length_spaced : (s : List ℕ) → length (spaced s) ≡ length s
length_spaced s = length-map s space

-- The flag of the private functions: not set, the text stands as it is.
pub shown_as_it_is : (s : List ℕ) → map (shown false) s ≡ s
shown_as_it_is [] = refl
shown_as_it_is (b ∷ s) = ap (λ (t : List ℕ). b ∷ t) (shown_as_it_is s)

-- Byte i of a list whose bytes f maps.
pub get_d_map : (f : ℕ → ℕ) (s : List ℕ) (i : ℕ) → i < length s → get_or (map f s) i 0 ≡ f (get_or s i 0)
get_d_map f [] i h = absurd (not-suc-le-zero h)
get_d_map f (b ∷ s) zero h = refl
get_d_map f (b ∷ s) (suc i) h = get_d_map f s i (le_of_suc-le-suc h)

-- The place of the other byte of the same word.
abbrev partner : ℕ → ℕ
partner i = i + 1 - 2 * (i % 2)

get_d_turned : (s : List ℕ) (i : ℕ) → i < length s → partner i < length s → get_or (turned s) i 0 ≡ get_or s (partner i) 0
unfolding turned
get_d_turned [] i h k = refl
get_d_turned (a ∷ []) zero h k = absurd (omega arith)
get_d_turned (a ∷ []) (suc i) h k = absurd (omega arith)
get_d_turned (a ∷ b ∷ s) zero h k = refl
get_d_turned (a ∷ b ∷ s) (suc zero) h k = refl
get_d_turned (a ∷ b ∷ s) (suc (suc i)) h k =
    let e : partner (suc (suc i)) ≡ suc (suc (partner i)) = omega arith in
    get_d_turned s i (omega arith) (omega arith) ∙ ap (λ (m : ℕ). get_or (a ∷ b ∷ s) m 0) (sym e)

get_d_last : (s : List ℕ) (i : ℕ) → i < length s → length s ≤ partner i → get_or (turned s) i 0 ≡ get_or s i 0
unfolding turned
get_d_last [] i h k = refl
get_d_last (a ∷ []) i h k = refl
get_d_last (a ∷ b ∷ s) zero h k = absurd (omega arith)
get_d_last (a ∷ b ∷ s) (suc zero) h k = absurd (omega arith)
get_d_last (a ∷ b ∷ s) (suc (suc i)) h k = get_d_last s i (omega arith) (omega arith)

-- Byte i of a turned text whose bytes are mapped, where it has a partner and where it is a last byte with none.
module _ (f : ℕ → ℕ) (s : List ℕ) (i : ℕ) (h : i < length s) where
  pub turned_pair : partner i < length s → get_or (map f (turned s)) i 0 ≡ f (get_or s (partner i) 0)
  turned_pair k = get_d_map f (turned s) i (omega (arith, length_turned s)) ∙ ap f (get_d_turned s i h k)

  pub turned_last : length s ≤ partner i → get_or (map f (turned s)) i 0 ≡ f (get_or s i 0)
  turned_last k = get_d_map f (turned s) i (omega (arith, length_turned s)) ∙ ap f (get_d_last s i h k)

pub length_text : (f : ℕ → ℕ) (s : List ℕ) → length (map f (turned s)) ≡ length s
length_text f s = length-map (turned s) f ∙ length_turned s

-- The two bytes of a word of a turned text, the word starting at an even place.
module _ (f : ℕ → ℕ) (s : List ℕ) (i : ℕ) (even : i % 2 ≡ 0) (h : i + 1 < length s) where
  pub word_first : get_or (map f (turned s)) i 0 ≡ f (get_or s (i + 1) 0)
  word_first =
      let p : partner i ≡ i + 1 = omega arith in
      rw p at (turned_pair f s i (omega arith) (omega arith))

  pub word_second : get_or (map f (turned s)) (i + 1) 0 ≡ f (get_or s i 0)
  word_second =
      let p : partner (i + 1) ≡ i = omega arith in
      rw p at (turned_pair f s (i + 1) h (omega arith))

-- A text is all spaces where every byte is one, and is not where one byte is none.
pub every_space : (s : List ℕ) → ((k : ℕ) → k < length s → get_or s k 0 ≡ 0x20) → all_spaces s ≡ true
unfolding all_spaces
every_space [] z = refl
every_space (b ∷ s) z = rw (eq-eqb b 0x20 (z 0 (omega arith))) (every_space s (λ k h. z (suc k) (omega arith)))

pub no_space_at : (s : List ℕ) (k : ℕ) → k < length s → (get_or s k 0 ≡ 0x20 → ⊥) → all_spaces s ≡ false
unfolding all_spaces
no_space_at [] k h n = absurd (not-suc-le-zero h)
no_space_at (b ∷ s) zero h n = rw (ne_eqb b 0x20 n)
no_space_at (b ∷ s) (suc k) h n = rw (no_space_at s k (le_of_suc-le-suc h) n, and-false)

-- A revision has four bytes, whichever part is shown.
length_cond : (b : Bool) (s t : List ℕ) {n : ℕ} → length s ≡ n → length t ≡ n → length (cond b s t) ≡ n
length_cond true s t hs ht = hs
length_cond false s t hs ht = ht

pub length_revision : (firmware : List ℕ) → length firmware ≡ 8 → length (revision firmware) ≡ 4
unfolding revision
length_revision f h =
    length_turned (revision_part f)
    ∙ length_cond (all_spaces (drop 4 f)) (take 4 f) (drop 4 f) (length-take 4 f ∙ omega arith) (length-drop 4 f ∙ omega arith)

-- Two words, turned.
pub turned_two_words : (s : List ℕ) → length s ≡ 4 → turned s ≡ get_or s 1 0 ∷ get_or s 0 0 ∷ get_or s 3 0 ∷ get_or s 2 0 ∷ []
unfolding turned
turned_two_words (a ∷ b ∷ c ∷ d ∷ []) h = refl
turned_two_words [] h = absurd (omega arith)
turned_two_words (a ∷ []) h = absurd (omega arith)
turned_two_words (a ∷ b ∷ []) h = absurd (omega arith)
turned_two_words (a ∷ b ∷ c ∷ []) h = absurd (omega arith)
turned_two_words (a ∷ b ∷ c ∷ d ∷ e ∷ s) h = absurd (omega arith)
