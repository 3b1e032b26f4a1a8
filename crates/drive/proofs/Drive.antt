-- Laws of drives: texts compared part by part, and that being the same drive is an equivalence.
use mathlib.Core.Path.{◌≡◌, refl, sym, ap, ◌∙◌}
use mathlib.Core.Bool.{Bool, true, false, not, ◌&&◌, ◌||◌, and-eq-true_iff, and-true, or-false, true≢false, false≢true}
use mathlib.Core.List.{List, [], ◌∷◌, map, map-append}
use mathlib.Core.Logic.{◌⊎◌, inl, inr, ⊎_elim}
use Prim.Native.Nat.{ℕ, zero, suc, ◌+◌, ◌≤◌, min}
use native.Mathlib.Omega.{arith}
use lib.ListN.{length, take, drop}
use lib.Seq.{take-add, take_all}
use Rattle.texts.specs.Text.{spaced}
use Rattle.identify.specs.Block.{word, serial, model, name}
use Rattle.identify.specs.Bytes.{equal}
use Rattle.identify.specs.Names.{says_named, carries_name}
use Rattle.identify.proofs.Bytes.{equal_of, equal_same, not_equal}
use Rattle.identify.proofs.Names.{named_some_bit}
use Rattle.drive.specs.Drive.{same_drive}

-- The front of a front that is as long, or all there is.
take_within : (k i : ℕ) (s : List ℕ) → min k (length s) ≤ i → take k (take i s) ≡ take k s
take_within zero i s h = refl
take_within (suc k) zero [] h = refl
take_within (suc k) (suc i) [] h = refl
take_within (suc k) zero (b ∷ s) h = absurd (omega arith)
take_within (suc k) (suc i) (b ∷ s) h = ap (λ (l : List ℕ). b ∷ l) (take_within k i s (omega arith))

-- Texts whose bytes f maps, compared part by part.
module _ (f : ℕ → ℕ) where
  map_take : (n : ℕ) (s : List ℕ) → map f (take n s) ≡ take n (map f s)
  map_take zero s = refl
  map_take (suc n) [] = refl
  map_take (suc n) (b ∷ s) = ap (λ (l : List ℕ). f b ∷ l) (map_take n s)

  map_drop : (n : ℕ) (s : List ℕ) → map f (drop n s) ≡ drop n (map f s)
  map_drop zero s = refl
  map_drop (suc n) [] = refl
  map_drop (suc n) (b ∷ s) = map_drop n s

  module _ (s t : List ℕ) where
    -- The same up to a place, and in the n bytes from one on.
    abbrev pub SameTo : ℕ → Type 0
    SameTo i = map f (take i s) ≡ map f (take i t)

    abbrev pub same_from : ℕ → ℕ → Bool
    same_from i n = equal (map f (take n (drop i s))) (map f (take n (drop i t)))

    -- Texts that differ in a part differ.
    pub differ_in_part : (i n : ℕ) → same_from i n ≡ false → equal (map f s) (map f t) ≡ false
    differ_in_part i n h =
        not_equal (map f s) (map f t)
        (λ e. true≢false (sym (equal_of (part s ∙ ap (λ (l : List ℕ). take n (drop i l)) e ∙ sym (part t))) ∙ h))
      where
        part : (s : List ℕ) → map f (take n (drop i s)) ≡ take n (drop i (map f s))
        part s = map_take n (drop i s) ∙ ap (take n) (map_drop i s)

    -- The same up to a place: so up to any that is not behind it, or behind the end; with the next part; and whole.
    pub same_within : (i k : ℕ) → min k (length s) ≤ i → min k (length t) ≤ i → SameTo i → SameTo k
    same_within i k hs ht e = front s hs ∙ ap (take k) e ∙ sym (front t ht)
      where
        front : (s : List ℕ) → min k (length s) ≤ i → map f (take k s) ≡ take k (map f (take i s))
        front s h = ap (map f) (sym (take_within k i s h)) ∙ map_take k (take i s)

    pub same_more : (i n : ℕ) → SameTo i → same_from i n ≡ true → SameTo (i + n)
    same_more i n e h =
        let part = equal_same (map f (take n (drop i s))) (map f (take n (drop i t))) h in
        rw (take-add i n s, take-add i n t, map-append f (take i s), map-append f (take i t), e, part)

    pub same_whole : (i : ℕ) → length s ≤ i → length t ≤ i → SameTo i → equal (map f s) (map f t) ≡ true
    same_whole i hs ht e = equal_of (rw (take_all i s hs, take_all i t ht) at e)

-- The two cases of demand 3, over their tests alone.
cases : (p q n m s : Bool) → (p && q && n || not p && not q && m && s) ≡ true → ((p ≡ true) × (q ≡ true) × (n ≡ true)) ⊎ ((p ≡ false) × (q ≡ false) × (m ≡ true) × (s ≡ true))
cases true true n m s e = inl (refl, refl, rw or-false at e)
cases true false n m s e = absurd (false≢true e)
cases false true n m s e = absurd (false≢true e)
cases false false n m s e = let both = (and-eq-true_iff m s).0 e in inr (refl, refl, both.0, both.1)

-- The same tests, once it is known whether the second carries a name.
with_name : (p n m s : Bool) → (p && true && n || not p && false && m && s) ≡ (p && n)
with_name true n m s = or-false n
with_name false n m s = refl

without : (p n m s : Bool) → (p && false && n || not p && true && m && s) ≡ (not p && (m && s))
without true n m s = refl
without false n m s = refl

module _ (a b : List ℕ) where
  -- One name, which both carry.
  abbrev pub OneName : Type 0
  OneName = (carries_name a ≡ true) × (carries_name b ≡ true) × (name a ≡ name b)

  -- No name, and the same texts once their zero bytes are spaces.
  abbrev pub OneText : Type 0
  OneText = (carries_name a ≡ false) × (carries_name b ≡ false) × (spaced (model a) ≡ spaced (model b)) × (spaced (serial a) ≡ spaced (serial b))

  -- Given whether the second carries a name, what is left to compare.
  pub other_named : carries_name b ≡ true → same_drive a b ≡ (carries_name a && equal (name a) (name b))
  unfolding same_drive
  other_named q = rw (q, with_name)

  pub other_nameless : carries_name b ≡ false → same_drive a b ≡ (not (carries_name a) && (equal (spaced (model a)) (spaced (model b)) && equal (spaced (serial a)) (spaced (serial b))))
  unfolding same_drive
  other_nameless q = rw (q, without)

  -- Of a first with the name of a second that carries it, word 87 is left to ask.
  pub word_says : carries_name b ≡ true → equal (name a) (name b) ≡ true → carries_name a ≡ says_named (word a 87)
  unfolding carries_name
  word_says q e = rw (equal_same (name a) (name b) e, named_some_bit b q, and-true)

  -- The same drive, exactly when one or the other holds.
  pub same_drive_means : same_drive a b ≡ true → OneName ⊎ OneText
  unfolding same_drive
  same_drive_means e =
      ⊎_elim (λ w. inl (w.0, w.1, equal_same (name a) (name b) w.2))
      (λ w. inr (w.0, w.1, equal_same (spaced (model a)) (spaced (model b)) w.2, equal_same (spaced (serial a)) (spaced (serial b)) w.3))
      (cases (carries_name a) (carries_name b) (equal (name a) (name b)) (equal (spaced (model a)) (spaced (model b))) (equal (spaced (serial a)) (spaced (serial b))) e)

  pub same_drive_when : OneName ⊎ OneText → same_drive a b ≡ true
  unfolding same_drive
  same_drive_when (inl w) = rw (w.0, w.1, equal_of w.2)
  same_drive_when (inr w) = rw (w.0, w.1, equal_of w.2, equal_of w.3)

-- To be the same drive is an equivalence.
named_or_not : (b : Bool) → (b ≡ true) ⊎ (b ≡ false)
named_or_not true = inl refl
named_or_not false = inr refl

pub same_drive_self : (a : List ℕ) → same_drive a a ≡ true
same_drive_self a = same_drive_when a a (⊎_elim (λ h. inl (h, h, refl)) (λ h. inr (h, h, refl, refl)) (named_or_not (carries_name a)))

pub same_drive_turned_round : (a b : List ℕ) → same_drive a b ≡ true → same_drive b a ≡ true
same_drive_turned_round a b e =
    same_drive_when b a
    (⊎_elim (λ w. inl (w.1, w.0, sym w.2)) (λ w. inr (w.1, w.0, sym w.2, sym w.3)) (same_drive_means a b e))

pub same_drive_through : (a b c : List ℕ) → same_drive a b ≡ true → same_drive b c ≡ true → same_drive a c ≡ true
same_drive_through a b c e f =
    same_drive_when a c
    (⊎_elim (λ w. ⊎_elim (λ v. inl (w.0, v.1, w.2 ∙ v.2)) (λ v. absurd (true≢false (sym w.1 ∙ v.0))) (same_drive_means b c f))
    (λ w. ⊎_elim (λ v. absurd (true≢false (sym v.0 ∙ w.1))) (λ v. inr (w.0, v.1, w.2 ∙ v.2, w.3 ∙ v.3)) (same_drive_means b c f))
    (same_drive_means a b e))
