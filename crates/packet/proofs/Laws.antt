-- Laws of the list of codes of page 00h: when it rises, where 89h has its place in it, how long it is with 89h.
use mathlib.Core.Path.{◌≡◌, refl, sym, ap, ◌∙◌}
use mathlib.Core.Bool.{Bool, true, false, cond, not, ◌&&◌, ◌||◌, true≢false, and-eq-true_iff, and-false, or-true}
use mathlib.Core.List.{List, [], ◌∷◌, ◌++◌}
use mathlib.Core.Logic.{⊎_elim}
use Prim.Native.Nat.{ℕ, zero, suc, ◌+◌, ◌-◌, ◌<◌, ◌≤◌}
use native.Mathlib.Nat.{eq-or-lt_of_le, lt_of_not-le, eq-zero-or-pos, zero-add, suc-add}
use native.Mathlib.Omega.{arith}
use lib.Dec.{eqb, ltb}
use lib.ListN.{length, get_or, take, drop, length-append, length-take, length-drop, get_or-eq_default}
use lib.Seq.{drop-nil}
use borrow.Author.Tests.{lt-ltb, le-ltb, ltb-true, eq-eqb, ne_eqb, eqb-true}
use Rattle.packet.specs.Packet.{listed, rising, has89, with89, unusable}
use Rattle.packet.specs.Helpers.{below89}

-- A list rises strictly where each neighbour is above the one before, and does not where one pair is out of order.
pub rises : (s : List ℕ) → ((k : ℕ) → suc k < length s → get_or s k 0 < get_or s (suc k) 0) → rising s ≡ true
unfolding rising
rises [] z = refl
rises (a ∷ []) z = refl
rises (a ∷ b ∷ s) z = rw (lt-ltb a b (z 0 (omega arith))) (rises (b ∷ s) (λ k h. z (suc k) (omega arith)))

pub falls_at : (s : List ℕ) (k : ℕ) → suc k < length s → get_or s (suc k) 0 ≤ get_or s k 0 → rising s ≡ false
unfolding rising
falls_at [] k h d = absurd (omega arith)
falls_at (a ∷ []) k h d = absurd (omega arith)
falls_at (a ∷ b ∷ s) zero h d = rw (le-ltb a b d)
falls_at (a ∷ b ∷ s) (suc k) h d = rw (falls_at (b ∷ s) k (omega arith) d, and-false)

-- i is no place past the end, and all codes before it are below 89h.
abbrev pub Low : List ℕ → ℕ → Type 0
Low s i = (i ≤ length s) × ((k : ℕ) → k < i → get_or s k 0 < 0x89)

-- So i is the place of 89h where the code at i, if there is one, is not below 89h.
pub below_is : (s : List ℕ) (i : ℕ) → Low s i → (i < length s → 0x89 ≤ get_or s i 0) → i ≡ below89 s
unfolding below89
below_is [] i w n = omega arith
below_is (a ∷ s) zero w n = rw (le-ltb a 0x89 (n (omega arith)))
below_is (a ∷ s) (suc i) w n =
    rw (lt-ltb a 0x89 (w.1 0 (omega arith)))
    (ap suc (below_is s i (omega arith, λ k h. w.1 (suc k) (omega arith)) (λ h. n (omega arith))))

-- A byte that is not zero stands within its list.
pub within : (s : List ℕ) (i v : ℕ) → get_or s i 0 ≡ suc v → i < length s
within s i v e = lt_of_not-le (λ h. omega (arith, get_or-eq_default s 0 h))

-- A test as a number.
abbrev pub counted : Bool → ℕ
counted b = cond b 1 0

-- A list whose first code is not below 89h, as `with89` treats it.
at_front : (b : Bool) (a : ℕ) (s : List ℕ) → eqb a 0x89 ≡ b → cond (eqb a 0x89) (a ∷ s) (0x89 ∷ a ∷ s) ≡ 0x89 ∷ drop (counted b) (a ∷ s)
at_front true a s e = rw (e, eqb-true a 0x89 e)
at_front false a s e = rw e

-- The codes before the place of 89h, 89h, and the codes from there on, but not 89h twice.
inserted : (b : Bool) (s : List ℕ) → eqb (get_or s (below89 s) 0) 0x89 ≡ b → with89 s ≡ take (below89 s) s ++ 0x89 ∷ drop (below89 s + counted b) s
unfolding with89 below89
inserted b [] e = rw drop-nil
inserted b (a ∷ s) e =
    ⊎_elim (λ z. let l = le-ltb a 0x89 (omega arith) in rw (l, zero-add) (at_front b a s (rw l at e)))
    (λ z. let l = lt-ltb a 0x89 (omega arith) in rw (l, suc-add) (ap (λ (t : List ℕ). a ∷ t) (inserted b s (rw l at e))))
    (eq-zero-or-pos (0x89 - a))

-- So with 89h, whose place is i, a list is the codes before i, 89h, and the codes from i on, but not the one at i where that
-- is 89h (b); and it is one longer, but where it has 89h there.
module _ (b : Bool) (s : List ℕ) {i : ℕ} (place : i ≡ below89 s) (has : eqb (get_or s i 0) 0x89 ≡ b) where
  pub split : with89 s ≡ take i s ++ 0x89 ∷ drop (i + counted b) s
  split = rw place (inserted b s (rw place at has))

  pub length_split : i + counted b ≤ length s → length (with89 s) + counted b ≡ suc (length s)
  length_split h = rw split (simp (length-append, length-take, length-drop) (omega arith))

-- What is left of a rising list without its first code rises.
rising_tail : (a : ℕ) (s : List ℕ) → rising (a ∷ s) ≡ true → rising s ≡ true
unfolding rising
rising_tail a [] e = refl
rising_tail a (b ∷ s) e = ((and-eq-true_iff (ltb a b) (rising (b ∷ s))).0 e).1

-- In a rising list no code behind one that is not below 89h is 89h.
none_behind : (a : ℕ) (s : List ℕ) → 0x89 ≤ a → rising (a ∷ s) ≡ true → has89 s ≡ false
unfolding rising has89
none_behind a [] h e = refl
none_behind a (b ∷ s) h e =
    let both = (and-eq-true_iff (ltb a b) (rising (b ∷ s))).0 e in
    let l : a < b = ltb-true a b both.0 in
    rw (ne_eqb b 0x89 (λ q. omega arith)) (none_behind b s (omega arith) both.1)

-- Put in front of a list, 89h makes it one longer, unless its first code is 89h (b).
one_more : (b : Bool) (a : ℕ) (s : List ℕ) → length (cond b (a ∷ s) (0x89 ∷ a ∷ s)) + counted (b || false) ≡ suc (suc (length s))
one_more true a s = omega arith
one_more false a s = omega arith

-- With 89h a rising list is one longer, unless it has 89h.
pub length_with89 : (s : List ℕ) → rising s ≡ true → length (with89 s) + counted (has89 s) ≡ suc (length s)
unfolding with89 has89
length_with89 [] e = refl
length_with89 (a ∷ s) e =
    ⊎_elim (λ z. rw (le-ltb a 0x89 (omega arith), none_behind a s (omega arith) e) (one_more (eqb a 0x89) a s))
    (λ z. rw (lt-ltb a 0x89 (omega arith), ne_eqb a 0x89 (λ q. omega arith)) (omega (arith, length_with89 s (rising_tail a s e))))
    (eq-zero-or-pos (0x89 - a))

-- So a rising list of at most 255 codes has more than 255 with 89h just where it has 255 without 89h.
pub too_long : (s : List ℕ) → rising s ≡ true → length s ≤ 255 → ltb 255 (length (with89 s)) ≡ (eqb (length s) 255 && not (has89 s))
too_long s e h = by (has89 s) (length_with89 s e)
  where
    by : (b : Bool) → length (with89 s) + counted b ≡ suc (length s) → ltb 255 (length (with89 s)) ≡ (eqb (length s) 255 && not b)
    by true l = rw (le-ltb 255 (length (with89 s)) (omega arith), and-false)
    by false l =
        ⊎_elim (λ q. rw (lt-ltb 255 (length (with89 s)) (omega arith), eq-eqb (length s) 255 q))
        (λ q. rw (le-ltb 255 (length (with89 s)) (omega arith), ne_eqb (length s) 255 (λ p. omega arith)))
        (eq-or-lt_of_le h)

-- A page lists no more codes than its byte 3 says.
pub listed_at_most : (reply : List ℕ) → length (listed reply) ≤ get_or reply 3 0
listed_at_most reply = simp length-take (omega arith)

-- Of a page that can be used, the list with 89h has a length that a byte holds.
pub length_fits : (reply : List ℕ) → get_or reply 3 0 < 256 → unusable reply ≡ false → length (with89 (listed reply)) < 256
unfolding unusable
length_fits reply h e = lt_of_not-le (λ g. true≢false (sym (by g (rising (listed reply)) refl) ∙ e))
  where
    by : 256 ≤ length (with89 (listed reply)) → (b : Bool) → rising (listed reply) ≡ b → unusable reply ≡ true
    by g true r = rw (← too_long (listed reply) r (omega (arith, listed_at_most reply)), lt-ltb 255 (length (with89 (listed reply))) g, or-true)
    by g false r = rw (r, or-true)
