-- Laws of captures: a field's bytes, a turn of a loop over the tags, and 89h as the last field.
use mathlib.Core.Path.{◌≡◌, refl, sym, ap, ◌∙◌}
use mathlib.Core.Bool.{Bool, true, false, cond, and-eq-true_iff}
use mathlib.Core.List.{List, [], ◌∷◌}
use mathlib.Core.Logic.{⊎_elim}
use Prim.Native.Nat.{ℕ, ◌+◌, ◌-◌, ◌≤◌, ◌<◌}
use native.Mathlib.Nat.{eq-zero-or-pos, add-zero}
use native.Mathlib.Numerals.{add-one}
use native.Mathlib.Omega.{arith}
use lib.Dec.{eqb, leb}
use lib.ListN.{length, get_or, take, drop, length-take, length-drop, drop_of_length-le}
use lib.Seq.{drop-cons, drop-drop, take_all}
use borrow.Author.Tests.{eqb-true, leb-true, le-leb, lt-leb}
use Rattle.capture.specs.Capture.{field, others, told, content, stands, taken, fields, size, place89, has89, holds, information}

-- A field that stands has all its bytes.
pub all_there : (tag : ℕ) (rest : List ℕ) → stands tag rest ≡ true → 3 + told rest ≤ length rest
all_there tag rest e = leb-true _ _ ((and-eq-true_iff (eqb (get_or rest 0 0) tag) _).0 e).1

pub length_content : (rest : List ℕ) → 3 + told rest ≤ length rest → length (content rest) ≡ told rest
length_content rest h = simp (length-take, length-drop) (omega arith)

-- Three bytes more on both sides.
pub behind_three : (a l : ℕ) → 3 ≤ l → leb a (l - 3) ≡ leb (3 + a) l
behind_three a l h =
    ⊎_elim
    (λ z. rw (le-leb a (l - 3) (omega arith), le-leb (3 + a) l (omega arith)))
    (λ z. rw (lt-leb a (l - 3) (omega arith), lt-leb (3 + a) l (omega arith)))
    (eq-zero-or-pos (a - (l - 3)))

-- A loop over the tags, at its turn k, with the fields before `at` read: the field of tag k stands there, or it does not.
module _ (capture : List ℕ) (at k : ℕ) (h : k < 4) where
  pub turn_stands : stands (get_or others k 0) (drop at capture) ≡ true → fields (drop k others) (drop at capture) ≡ field (get_or others k 0) (content (drop at capture)) ∷ fields (drop (k + 1) others) (drop (at + (3 + told (drop at capture))) capture)
  unfolding fields
  turn_stands e = rw (drop-cons others k 0, e, add-one, drop-drop (3 + told (drop at capture)) at capture)

  pub turn_lacks : stands (get_or others k 0) (drop at capture) ≡ false → fields (drop k others) (drop at capture) ≡ fields (drop (k + 1) others) (drop at capture)
  unfolding fields
  turn_lacks e = rw (drop-cons others k 0, e, add-one)

-- After the last turn no field is left.
pub no_turn : (capture : List ℕ) (at k : ℕ) → 4 ≤ k → fields (drop k others) (drop at capture) ≡ []
unfolding fields
no_turn capture at k h = rw (drop_of_length-le others {i = k} h)

-- Before turn k of the walk: what is left of the fields takes it to where 89h is to stand.
pub record Walking (capture : List ℕ) (at k : ℕ) : Type 0 where
  pub upto : at ≤ length capture
  pub left : at + size (fields (drop k others) (drop at capture)) ≡ place89 capture

pub none_read : (capture : List ℕ) → Walking capture 0 0
unfolding place89
none_read capture = record { upto = omega arith; left = omega arith }

module _ {capture : List ℕ} {at k : ℕ} (w : Walking capture at k) where
  pub read_on : k < 4 → Walking capture (at + taken (get_or others k 0) (drop at capture)) (k + 1)
  unfolding size
  read_on h = by (stands (get_or others k 0) (drop at capture)) refl
    where
      by : (b : Bool) → stands (get_or others k 0) (drop at capture) ≡ b → Walking capture (at + cond b (3 + told (drop at capture)) 0) (k + 1)
      by true e =
          let there = all_there (get_or others k 0) (drop at capture) e in
          let l = length-drop at capture in
          let n = length_content (drop at capture) there in
          let d = rw (turn_stands capture at k h e) at w.left in
          record { upto = omega (arith, w.upto); left = omega (arith, d, n) }
      by false e = rw add-zero (record { upto = w.upto; left = rw (turn_lacks capture at k h e) at w.left })

  pub all_read : 4 ≤ k → at ≡ place89 capture
  unfolding size
  all_read h = let d = rw (no_turn capture at k h) at w.left in omega (arith, d)

-- Where the layout holds, 89h is the last field, and its bytes are the last 572.
pub ends_89 : (capture : List ℕ) → holds capture ≡ true → place89 capture + 575 ≡ length capture
unfolding holds
ends_89 capture e = eqb-true _ _ ((and-eq-true_iff (has89 capture) _).0 e).1

pub told_89 : (capture : List ℕ) → holds capture ≡ true → told (drop (place89 capture) capture) ≡ 572
unfolding holds
told_89 capture e = eqb-true _ _ ((and-eq-true_iff (stands 0x89 (drop (place89 capture) capture)) _).0 ((and-eq-true_iff (has89 capture) _).0 e).0).1

pub last_bytes : (capture : List ℕ) → holds capture ≡ true → drop (length capture - 572) capture ≡ information capture
unfolding information
last_bytes capture e =
    let n = ends_89 capture e in
    let s : length capture - 572 ≡ place89 capture + 3 = omega arith in
    let l = length-drop (place89 capture + 3) capture in
    rw (s, told_89 capture e, drop-drop) (sym (take_all 572 (drop (place89 capture + 3) capture) (omega arith)))

pub length_information : (capture : List ℕ) → holds capture ≡ true → length (information capture) ≡ 572
length_information capture e =
    let n = ends_89 capture e in
    sym (ap length (last_bytes capture e)) ∙ length-drop (length capture - 572) capture ∙ omega arith

-- A part that goes on to the end.
pub to_the_end : (n : ℕ) (bytes : List ℕ) → take (length bytes - n) (drop n bytes) ≡ drop n bytes
to_the_end n bytes = take_all (length bytes - n) (drop n bytes) (omega (arith, length-drop n bytes))
