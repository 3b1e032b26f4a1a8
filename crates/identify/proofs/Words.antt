-- A field's bytes are its words, low byte first; so fields are compared, and found empty, word by word.
use mathlib.Core.Path.{◌≡◌, refl, sym, ap, ◌∙◌}
use mathlib.Core.Bool.{true, false, and-eq-true_iff, true≢false, false≢true}
use mathlib.Core.List.{List, [], ◌∷◌}
use mathlib.Core.Logic.{◌↔◌, ⊎_elim}
use Prim.Native.Nat.{ℕ, zero, suc, ◌+◌, ◌*◌, ◌-◌, ◌/◌, ◌%◌, ◌≤◌, ◌<◌}
use native.Mathlib.Nat.{eq-zero-or-pos}
use native.Mathlib.Omega.{arith}
use lib.ListN.{length, get_or, take, drop}
use lib.Seq.{drop-cons, get_or-take, get_or-drop}
use Rattle.identify.specs.Block.{word, words, name}
use Rattle.identify.specs.Bytes.{Bytes, no_more, more}
use Rattle.identify.specs.Words.{words_from, in_bytes, SameWords, SomeWord, NoWord, Named, Nameless}
use Rattle.identify.specs.Names.{some_bit, says_named, carries_name}
use Rattle.identify.proofs.Block.{length_words}
use Rattle.identify.proofs.Bytes.{never}
use Rattle.identify.proofs.Names.{some_bit_at, said_named}

-- Any element of a list of bytes is a byte; behind the end stands 0.
byte_at : {s : List ℕ} → Bytes s → (k : ℕ) → get_or s k 0 < 0x100
byte_at no_more k = omega arith
byte_at (more h b) zero = h
byte_at (more h b) (suc k) = byte_at b k

-- The next two bytes are a word's low byte and its high byte.
next_word : (n first : ℕ) (block : List ℕ) → 2 * (first + 1) ≤ length block → take (2 * suc n) (drop (2 * first) block) ≡ get_or block (2 * first) 0 ∷ get_or block (2 * first + 1) 0 ∷ take (2 * n) (drop (2 * suc first) block)
next_word n first block h =
    let two : 2 * suc n ≡ suc (suc (2 * n)) = omega arith in
    let one : 2 * first + 1 ≡ suc (2 * first) = omega arith in
    let behind : 2 * suc first ≡ suc (suc (2 * first)) = omega arith in
    rw (two, one, behind, drop-cons block (2 * first) 0 (omega arith), drop-cons block (suc (2 * first)) 0 (omega arith))

-- The bytes of n words from `first` on, where the block has them.
from : (n first : ℕ) {block : List ℕ} → Bytes block → 2 * n ≤ length block - 2 * first → take (2 * n) (drop (2 * first) block) ≡ in_bytes (words_from first n block)
unfolding words_from in_bytes
from zero first b h = refl
from (suc n) first {block} b h =
    let low : get_or block (2 * first) 0 ≡ word block first % 0x100 = omega (arith, byte_at b (2 * first), byte_at b (2 * first + 1)) in
    let high : get_or block (2 * first + 1) 0 ≡ word block first / 0x100 = omega (arith, byte_at b (2 * first), byte_at b (2 * first + 1)) in
    next_word n first block (omega arith) ∙ cc (low, high, from n (suc first) b (omega arith))

-- A field is the bytes of its words.
pub fields_are_words : (first last : ℕ) (block : List ℕ) → Bytes block → 2 * (last + 1) ≤ length block → words first last block ≡ in_bytes (words_from first (last + 1 - first) block)
fields_are_words first last block b h = from (last + 1 - first) first b (omega arith)

-- Runs of words are equal where each word is.
same_from : (n first : ℕ) (a b : List ℕ) → ((w : ℕ) → first ≤ w → w < first + n → word a w ≡ word b w) → words_from first n a ≡ words_from first n b
unfolding words_from
same_from zero first a b e = refl
same_from (suc n) first a b e = rw (e first (omega arith) (omega arith), same_from n (suc first) a b (λ w h l. e w (omega arith) (omega arith)))

-- Where some bit of a run of words is one, some word is not zero.
some_from : (n first : ℕ) (block : List ℕ) → some_bit (in_bytes (words_from first n block)) ≡ true → (w : ℕ) × (first ≤ w) × (w < first + n) × (word block w ≡ 0 → ⊥)
unfolding words_from in_bytes some_bit
some_from zero first block e = absurd (false≢true e)
some_from (suc n) first block e =
    ⊎_elim (λ z. let found = some_from n (suc first) block (rw z at e) in (found.0, omega arith, omega arith, found.3))
    (λ p. (first, omega arith, omega arith, λ z. omega arith))
    (eq-zero-or-pos (word block first))

module _ (first last : ℕ) where
  -- A byte of a field, by its place in the block.
  byte_in : (block : List ℕ) (k : ℕ) → 2 * first ≤ k → k < 2 * (last + 1) → get_or (words first last block) (k - 2 * first) 0 ≡ get_or block k 0
  byte_in block k h l =
      get_or-take (2 * (last + 1 - first)) (drop (2 * first) block) (k - 2 * first) 0 (omega arith)
      ∙ get_or-drop (2 * first) block (k - 2 * first) 0
      ∙ ap (λ (n : ℕ). get_or block n 0) (omega arith)

  same_byte : (a b : List ℕ) → words first last a ≡ words first last b → (k : ℕ) → 2 * first ≤ k → k < 2 * (last + 1) → get_or a k 0 ≡ get_or b k 0
  same_byte a b e k h l = sym (byte_in a k h l) ∙ ap (λ (field : List ℕ). get_or field (k - 2 * first) 0) e ∙ byte_in b k h l

  -- Two fields are equal exactly where every word of one is the other's.
  pub same_words : {a b : List ℕ} → Bytes a → Bytes b → 2 * (last + 1) ≤ length a → 2 * (last + 1) ≤ length b → (words first last a ≡ words first last b) ↔ SameWords first last a b
  same_words {a} {b} ba bb la lb = (
    λ e w h l. rw (same_byte a b e (2 * w) (omega arith) (omega arith), same_byte a b e (2 * w + 1) (omega arith) (omega arith)),
    λ e. fields_are_words first last a ba la
        ∙ ap in_bytes (same_from (last + 1 - first) first a b (λ w h l. e w h (omega arith)))
        ∙ sym (fields_are_words first last b bb lb),
  )

  module _ {block : List ℕ} (b : Bytes block) (l : 2 * (last + 1) ≤ length block) where
    -- A byte of the field that is not zero is some bit of it.
    set_at : (k : ℕ) → 2 * first ≤ k → k < 2 * (last + 1) → (get_or block k 0 ≡ 0 → ⊥) → some_bit (words first last block) ≡ true
    set_at k h m n =
        some_bit_at (words first last block) (k - 2 * first) (omega (arith, length_words first last block l)) (λ z. n (sym (byte_in block k h m) ∙ z))

    -- Some bit of a field is one exactly where some word of it is not zero.
    pub some_word : (some_bit (words first last block) ≡ true) ↔ SomeWord first last block
    some_word = (
      λ e. let found = some_from (last + 1 - first) first block (ap some_bit (sym (fields_are_words first last block b l)) ∙ e) in
          (found.0, found.1, omega arith, found.3),
      λ s. ⊎_elim (λ z. set_at (2 * s.0 + 1) (omega arith) (omega arith) (λ y. s.3 (omega arith)))
          (λ p. set_at (2 * s.0) (omega arith) (omega arith) (λ y. omega arith))
          (eq-zero-or-pos (get_or block (2 * s.0) 0)),
    )

    -- No bit of it is one exactly where every word is zero.
    pub no_word : (some_bit (words first last block) ≡ false) ↔ NoWord first last block
    no_word = (
      λ e w h m. ⊎_elim (λ z. z) (λ p. absurd (true≢false (sym (some_word.1 (w, h, m, λ z. omega arith)) ∙ e))) (eq-zero-or-pos (word block w)),
      λ z. never (some_bit (words first last block)) (λ e. let s = some_word.0 e in s.3 (z s.0 s.1 s.2)),
    )

-- A word by the field of that word alone.
pub field_word : (w : ℕ) (block : List ℕ) {low high : ℕ} → words w w block ≡ low ∷ high ∷ [] → word block w ≡ low + 0x100 * high
field_word w block {low} {high} e = rw (byte 0 (2 * w) (omega arith) (omega arith), byte 1 (2 * w + 1) refl (omega arith))
  where
    byte : (k place : ℕ) → place ≡ 2 * w + k → k < 2 → get_or block place 0 ≡ get_or (low ∷ high ∷ []) k 0
    byte k place p h =
        sym (byte_in w w block place (omega arith) (omega arith))
        ∙ ap (λ (n : ℕ). get_or (words w w block) n 0) (omega arith)
        ∙ ap (λ (field : List ℕ). get_or field k 0) e

-- A block of 512 bytes carries a name, or carries none, by its words.
module _ {block : List ℕ} (b : Bytes block) (l : length block ≡ 512) where
  pub named_by_words : (carries_name block ≡ true) ↔ Named block
  unfolding carries_name
  named_by_words =
      let both = and-eq-true_iff (says_named (word block 87)) (some_bit (name block)) in
      let some = some_word 108 111 b (omega arith) in
      (λ e. ((both.0 e).0, some.0 (both.0 e).1), λ n. both.1 (n.0, some.1 n.1))

  pub nameless_by_words : (carries_name block ≡ false) ↔ Nameless block
  nameless_by_words = (
    λ e s. (no_word 108 111 b (omega arith)).0 (sym (said_named block s) ∙ e),
    λ none. never (carries_name block) (λ e. let n = named_by_words.0 e in n.1.3 (none n.0 n.1.0 n.1.1 n.1.2)),
  )
