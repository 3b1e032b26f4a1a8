-- Laws of how far two runs of bytes agree, over runs of every length.
use mathlib.Core.Path.{◌≡◌, refl, sym, ap, ◌∙◌}
use mathlib.Core.Bool.{Bool, true, false, cond, ◌&&◌, and-eq-true_iff, true≢false}
use mathlib.Core.List.{List, [], ◌∷◌, ◌++◌, map, append-nil}
use Prim.Native.Nat.{ℕ, zero, suc, ◌+◌, ◌-◌, ◌%◌, ◌≤◌, ◌<◌, min}
use native.Mathlib.Nat.{le_of_suc-le-suc, not-suc-le-zero}
use native.Mathlib.Omega.{arith}
use lib.Dec.{eqb}
use lib.ListN.{length, get_or, take, drop, length-drop}
use lib.Seq.{ext_get_or, get_or-drop, drop-drop}
use borrow.Author.Count.{below_more}
use borrow.Author.Tests.{eq-eqb, ne_eqb, eqb-true, eqb-false}
use Rattle.texts.specs.Text.{turned}
use Rattle.texts.proofs.Text.{word_first, word_second}
use Rattle.agreement.specs.Agreed.{agreed}
use Rattle.agreement.specs.Helpers.{whole, four}

-- i is within both runs, and they agree before i.
pub record Agreeing (s t : List ℕ) (i : ℕ) : Type 0 where
  pub within_first : i ≤ length s
  pub within_second : i ≤ length t
  pub before : (k : ℕ) → k < i → get_or s k 0 ≡ get_or t k 0

-- So they agree up to i where one of them ends there or they differ there.
pub agree_to : (s t : List ℕ) (i : ℕ) → Agreeing s t i → (i < length s → i < length t → get_or s i 0 ≡ get_or t i 0 → ⊥) → i ≡ agreed s t
unfolding agreed
agree_to [] t i a n = omega (arith, a.within_first)
agree_to (x ∷ s) [] i a n = omega (arith, a.within_second)
agree_to (x ∷ s) (y ∷ t) zero a n = rw (ne_eqb x y (n (omega arith) (omega arith)))
agree_to (x ∷ s) (y ∷ t) (suc i) a n =
    rw (eq-eqb x y (a.before 0 (omega arith)))
    (ap suc (agree_to s t i (record { within_first = omega (arith, a.within_first); within_second = omega (arith, a.within_second); before = λ k h. a.before (suc k) (omega arith) }) (λ p q. n (omega arith) (omega arith))))

-- They do agree up to there, and not further.
pub agrees : (s t : List ℕ) → Agreeing s t (agreed s t)
unfolding agreed
agrees [] t = record { within_first = omega arith; within_second = omega arith; before = λ k h. absurd (not-suc-le-zero h) }
agrees (x ∷ s) [] = record { within_first = omega arith; within_second = omega arith; before = λ k h. absurd (not-suc-le-zero h) }
agrees (x ∷ s) (y ∷ t) = by (eqb x y) refl (agrees s t)
  where
    step : x ≡ y → Agreeing s t (agreed s t) → (k : ℕ) → k < suc (agreed s t) → get_or (x ∷ s) k 0 ≡ get_or (y ∷ t) k 0
    step e a zero h = e
    step e a (suc k) h = a.before k (le_of_suc-le-suc h)

    by : (b : Bool) → eqb x y ≡ b → Agreeing s t (agreed s t) → Agreeing (x ∷ s) (y ∷ t) (cond b (suc (agreed s t)) 0)
    by true e a = record { within_first = omega (arith, a.within_first); within_second = omega (arith, a.within_second); before = step (eqb-true x y e) a }
    by false e a = record { within_first = omega arith; within_second = omega arith; before = λ k h. absurd (not-suc-le-zero h) }

pub differ_there : (s t : List ℕ) → agreed s t < length s → agreed s t < length t → get_or s (agreed s t) 0 ≡ get_or t (agreed s t) 0 → ⊥
unfolding agreed
differ_there [] t h g = absurd (not-suc-le-zero h)
differ_there (x ∷ s) [] h g = absurd (not-suc-le-zero g)
differ_there (x ∷ s) (y ∷ t) h g = by (differ_there s t) (eqb x y) refl h g
  where
    by : (agreed s t < length s → agreed s t < length t → get_or s (agreed s t) 0 ≡ get_or t (agreed s t) 0 → ⊥) → (b : Bool) → eqb x y ≡ b → cond b (suc (agreed s t)) 0 < suc (length s) → cond b (suc (agreed s t)) 0 < suc (length t) → get_or (x ∷ s) (cond b (suc (agreed s t)) 0) 0 ≡ get_or (y ∷ t) (cond b (suc (agreed s t)) 0) 0 → ⊥
    by r true e p q = r (le_of_suc-le-suc p) (le_of_suc-le-suc q)
    by r false e p q = eqb-false x y e

-- A run agrees with itself whole, and two that agree whole are one.
pub agreed_self : (s : List ℕ) → agreed s s ≡ length s
unfolding agreed
agreed_self [] = refl
agreed_self (x ∷ s) = rw (eq-eqb x x refl) (ap suc (agreed_self s))

pub agreed_whole : (s t : List ℕ) → agreed s t ≡ length t → length s ≡ length t → s ≡ t
agreed_whole s t e l = ext_get_or 0 s t l (λ k h. (agrees s t).before k (omega (arith, e, l)))

-- A run against two pieces, one behind the other: it differs from the first, or goes on with the second.
module _ (q : List ℕ) where
  pub stops : (p s : List ℕ) → agreed s p < length p → agreed s (p ++ q) ≡ agreed s p
  unfolding agreed
  stops [] s h = absurd (not-suc-le-zero h)
  stops (y ∷ p) [] h = refl
  stops (y ∷ p) (x ∷ s) h = by (stops p s) (eqb x y) h
    where
      by : (agreed s p < length p → agreed s (p ++ q) ≡ agreed s p) → (b : Bool) → cond b (suc (agreed s p)) 0 < suc (length p) → cond b (suc (agreed s (p ++ q))) 0 ≡ cond b (suc (agreed s p)) 0
      by r true g = ap suc (r (le_of_suc-le-suc g))
      by r false g = refl

  pub goes_on : (p s : List ℕ) → length p ≤ agreed s p → agreed s (p ++ q) ≡ length p + agreed (drop (length p) s) q
  unfolding agreed
  goes_on [] s h = omega arith
  goes_on (y ∷ p) [] h = absurd (not-suc-le-zero h)
  goes_on (y ∷ p) (x ∷ s) h = by (goes_on p s) (eqb x y) h
    where
      by : (length p ≤ agreed s p → agreed s (p ++ q) ≡ length p + agreed (drop (length p) s) q) → (b : Bool) → suc (length p) ≤ cond b (suc (agreed s p)) 0 → cond b (suc (agreed s (p ++ q))) 0 ≡ suc (length p) + agreed (drop (length p) s) q
      by r true g = rw (r (le_of_suc-le-suc g)) (omega arith)
      by r false g = absurd (not-suc-le-zero g)

-- Behind a common front, what agrees further agrees further with that front before it.
pub further : (q s x y : List ℕ) → agreed (drop (length q) s) x ≤ agreed (drop (length q) s) y → agreed s (q ++ x) ≤ agreed s (q ++ y)
unfolding agreed
further [] s x y h = h
further (b ∷ q) [] x y h = omega arith
further (b ∷ q) (a ∷ s) x y h = by (further q s x y h) (eqb a b)
  where
    by : agreed s (q ++ x) ≤ agreed s (q ++ y) → (t : Bool) → cond t (suc (agreed s (q ++ x))) 0 ≤ cond t (suc (agreed s (q ++ y))) 0
    by r true = omega arith
    by r false = omega arith

-- A run agrees with its own front, whatever follows where it ends.
pub agreed_front : (n : ℕ) (s t : List ℕ) → agreed s (take n (s ++ t)) ≡ min n (length s)
unfolding agreed
agreed_front n [] t = omega arith
agreed_front zero (x ∷ s) t = omega arith
agreed_front (suc n) (x ∷ s) t = rw (eq-eqb x x refl, agreed_front n s t) (omega arith)

-- A loop that compares a run, from a place on, with a piece, before its turn i: n bytes are to be compared, and the first i agree.
pub record Comparing (run : List ℕ) (at n : ℕ) (piece : List ℕ) (i : ℕ) : Type 0 where
  pub upto : i ≤ n
  pub most : n ≡ min (length run - at) (length piece)
  pub alike : (k : ℕ) → k < i → get_or run (at + k) 0 ≡ get_or piece k 0

pub begin : {run : List ℕ} {at n : ℕ} {piece : List ℕ} → n ≡ min (length run - at) (length piece) → Comparing run at n piece 0
begin e = record { upto = omega arith; most = e; alike = λ k h. absurd (not-suc-le-zero h) }

module _ {run : List ℕ} {at n : ℕ} {piece : List ℕ} {i : ℕ} (c : Comparing run at n piece i) where
  pub one_more : i < n → get_or run (at + i) 0 ≡ get_or piece i 0 → Comparing run at n piece (i + 1)
  one_more h e = record { upto = omega arith; most = c.most; alike = below_more _ _ c.alike e }

  ends : (i < length (drop at run) → i < length piece → get_or (drop at run) i 0 ≡ get_or piece i 0 → ⊥) → at + i ≡ at + agreed (drop at run) piece
  ends d =
      let l = length-drop at run in
      ap (λ (m : ℕ). at + m)
      (agree_to (drop at run) piece i
      (record { within_first = omega (arith, c.upto, c.most); within_second = omega (arith, c.upto, c.most); before = λ k h. get_or-drop at run k 0 ∙ c.alike k h })
      d)

  pub ends_apart : (get_or run (at + i) 0 ≡ get_or piece i 0 → ⊥) → at + i ≡ at + agreed (drop at run) piece
  ends_apart d = ends (λ p q e. d (sym (get_or-drop at run i 0) ∙ e))

  pub ends_alike : n ≤ i → at + i ≡ at + agreed (drop at run) piece
  ends_alike h = ends (λ p q e. omega (arith, c.upto, c.most, length-drop at run))

-- The four bytes of a piece from place i on: as they stand, or of a text that is turned.
pub record FourAt (piece : List ℕ) (i a b c d : ℕ) : Type 0 where
  pub first : get_or piece i 0 ≡ a
  pub second : get_or piece (i + 1) 0 ≡ b
  pub third : get_or piece (i + 2) 0 ≡ c
  pub fourth : get_or piece (i + 3) 0 ≡ d

pub own_four : (piece : List ℕ) (i : ℕ) → FourAt piece i (get_or piece i 0) (get_or piece (i + 1) 0) (get_or piece (i + 2) 0) (get_or piece (i + 3) 0)
own_four piece i = record { first = refl; second = refl; third = refl; fourth = refl }

pub text_four : (f : ℕ → ℕ) (s : List ℕ) (i : ℕ) → i % 4 ≡ 0 → i + 4 ≤ length s → {a b c d : ℕ} → a ≡ f (get_or s (i + 1) 0) → b ≡ f (get_or s i 0) → c ≡ f (get_or s (i + 3) 0) → d ≡ f (get_or s (i + 2) 0) → FourAt (map f (turned s)) i a b c d
text_four f s i even h ea eb ec ed =
    let next : i + 2 + 1 ≡ i + 3 = omega arith in
    record {
      first = word_first f s i (omega arith) (omega arith) ∙ sym ea;
      second = word_second f s i (omega arith) (omega arith) ∙ sym eb;
      third = rw next at (word_first f s (i + 2) (omega arith) (omega arith)) ∙ sym ec;
      fourth = rw next at (word_second f s (i + 2) (omega arith) (omega arith)) ∙ sym ed;
    }

-- A loop that compares a piece of n bytes four at a time, before its turn i: it is of whole fours, and the run has as many bytes.
pub record ByFours (run : List ℕ) (at n : ℕ) (piece : List ℕ) (i : ℕ) : Type 0 where
  pub fours : i % 4 ≡ 0
  pub all_fours : n % 4 ≡ 0
  pub upto : i ≤ n
  pub within : at + n ≤ length run
  pub size : n ≡ length piece
  pub alike : (k : ℕ) → k < i → get_or run (at + k) 0 ≡ get_or piece k 0

pub begin_fours : {run : List ℕ} {at n : ℕ} {piece : List ℕ} → n % 4 ≡ 0 → at + n ≤ length run → n ≡ length piece → ByFours run at n piece 0
begin_fours f w s = record { fours = omega arith; all_fours = f; upto = omega arith; within = w; size = s; alike = λ k h. absurd (not-suc-le-zero h) }

below_four : (P : ℕ → Type 0) (i : ℕ) → ((k : ℕ) → k < i → P k) → P i → P (i + 1) → P (i + 2) → P (i + 3) → (k : ℕ) → k < i + 4 → P k
below_four P i f p q r s k h =
    below_more P (i + 3)
    (λ l g. below_more P (i + 2) (λ m e. below_more P (i + 1) (below_more P i f p) q m (omega (arith, e))) r l (omega (arith, g)))
    s k (omega (arith, h))

all_four : (w x y z : Bool) → (((w && x) && y) && z) ≡ true → ((w ≡ true) × (x ≡ true)) × ((y ≡ true) × (z ≡ true))
all_four w x y z e =
    let three = (and-eq-true_iff ((w && x) && y) z).0 e in
    let two = (and-eq-true_iff (w && x) y).0 three.0 in
    ((and-eq-true_iff w x).0 two.0, (two.1, three.1))

module _ {run : List ℕ} {at n : ℕ} {piece : List ℕ} {i : ℕ} (w : ByFours run at n piece i) (h : i < n) {a b c d : ℕ} (t : FourAt piece i a b c d) where
  fits : i + 4 ≤ n
  fits = omega (arith, w.fours, w.all_fours, h)

  pub same_four : four run (at + i) a b c d ≡ true → ByFours run at n piece (i + 4)
  same_four e =
      let s = all_four (eqb (get_or run (at + i) 0) a) (eqb (get_or run (at + i + 1) 0) b) (eqb (get_or run (at + i + 2) 0) c) (eqb (get_or run (at + i + 3) 0) d) e in
      let one : at + (i + 1) ≡ at + i + 1 = omega arith in
      let two : at + (i + 2) ≡ at + i + 2 = omega arith in
      let three : at + (i + 3) ≡ at + i + 3 = omega arith in
      record {
        fours = omega (arith, w.fours);
        all_fours = w.all_fours;
        upto = fits;
        within = w.within;
        size = w.size;
        alike =
            below_four (λ k. get_or run (at + k) 0 ≡ get_or piece k 0) i w.alike
            (eqb-true _ _ s.0.0 ∙ sym t.first)
            (rw one (eqb-true _ _ s.0.1 ∙ sym t.second))
            (rw two (eqb-true _ _ s.1.0 ∙ sym t.third))
            (rw three (eqb-true _ _ s.1.1 ∙ sym t.fourth));
      }

  pub other_four : four run (at + i) a b c d ≡ false → false ≡ whole run at piece
  other_four e = sym (ne_eqb (agreed (drop at run) piece) (length piece) (λ l. true≢false (sym (stands l) ∙ e)))
    where
      same : agreed (drop at run) piece ≡ length piece → (k : ℕ) → k < i + 4 → get_or run (at + k) 0 ≡ get_or piece k 0
      same l k g = sym (get_or-drop at run k 0) ∙ (agrees (drop at run) piece).before k (omega (arith, l, g, fits, w.size))

      stands : agreed (drop at run) piece ≡ length piece → four run (at + i) a b c d ≡ true
      stands l =
          let one : at + (i + 1) ≡ at + i + 1 = omega arith in
          let two : at + (i + 2) ≡ at + i + 2 = omega arith in
          let three : at + (i + 3) ≡ at + i + 3 = omega arith in
          rw (eq-eqb (get_or run (at + i) 0) a (same l i (omega arith) ∙ t.first), eq-eqb (get_or run (at + i + 1) 0) b (rw one at (same l (i + 1) (omega arith)) ∙ t.second), eq-eqb (get_or run (at + i + 2) 0) c (rw two at (same l (i + 2) (omega arith)) ∙ t.third), eq-eqb (get_or run (at + i + 3) 0) d (rw three at (same l (i + 3) (omega arith)) ∙ t.fourth))

pub end_fours : {run : List ℕ} {at n : ℕ} {piece : List ℕ} {i : ℕ} → ByFours run at n piece i → n ≤ i → true ≡ whole run at piece
end_fours {run} {at} {n} {piece} {i} w h =
    let c : Comparing run at n piece i = record { upto = w.upto; most = omega (arith, w.within, w.size); alike = w.alike } in
    sym (eq-eqb (agreed (drop at run) piece) (length piece) (omega (arith, ends_alike c h, h, w.upto, w.size)))

-- A run that ends before the piece does, and a piece that stands there whole.
pub too_short : (run : List ℕ) (at n : ℕ) (piece : List ℕ) → n ≡ length piece → length run - at < n → false ≡ whole run at piece
too_short run at n piece e h =
    sym (ne_eqb (agreed (drop at run) piece) (length piece) (λ l. omega (arith, l, e, h, (agrees (drop at run) piece).within_first, length-drop at run)))

pub whole_agrees : (run : List ℕ) (at n : ℕ) (piece : List ℕ) → n ≡ length piece → whole run at piece ≡ true → at + n ≡ at + agreed (drop at run) piece
whole_agrees run at n piece e t = omega (arith, e, eqb-true (agreed (drop at run) piece) (length piece) t)

-- The place up to which a run agrees, from a place on, is within the run.
pub reaches_within : (run p : List ℕ) (at : ℕ) {r : ℕ} → r ≡ at + agreed (drop at run) p → at ≤ length run → r ≤ length run
reaches_within run p at e h = omega (arith, e, (agrees (drop at run) p).within_first, length-drop at run)

-- Two pieces one behind the other, the second from the place `next` on: the run differs from the first, or goes on with the second.
module _ (run p q : List ℕ) (at next : ℕ) (n : at + length p ≡ next) {r : ℕ} (e : r ≡ at + agreed (drop at run) p) where
  pub differs_first : r < next → r ≡ at + agreed (drop at run) (p ++ q)
  differs_first h = rw (stops q p (drop at run) (omega (arith, e, n, h))) e

  pub then_second : {t : ℕ} → next ≤ r → t ≡ next + agreed (drop next run) q → t ≡ at + agreed (drop at run) (p ++ q)
  then_second {t} h g =
      rw (goes_on q p (drop at run) (omega (arith, e, n, h)), drop-drop (length p) at run, n) (omega (arith, g, n))

-- With nothing, nothing agrees; with its own front, all of it.
pub agreed_none : (s : List ℕ) → agreed s [] ≡ 0
unfolding agreed
agreed_none [] = refl
agreed_none (x ∷ s) = refl

pub agreed_own : (run : List ℕ) (at n next : ℕ) → at + n ≡ next → next ≤ length run → next ≡ at + agreed (drop at run) (take n (drop at run))
agreed_own run at n next e h =
    let l = length-drop at run in
    omega (arith, e, h, rw append-nil at (agreed_front n (drop at run) []))
