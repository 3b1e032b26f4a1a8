-- Laws of writing into lent room: what a write leaves untouched, two writes side by side, a loop that writes, a cut.
use mathlib.Core.Path.{◌≡◌, refl, sym, ap, ◌∙◌}
use mathlib.Core.Logic.{⊎_elim}
use mathlib.Core.List.{List, [], ◌∷◌, ◌++◌, append-nil, append_assoc}
use Prim.Native.Nat.{ℕ, zero, suc, ◌+◌, ◌-◌, ◌≤◌, ◌<◌, min}
use native.Mathlib.Nat.{eq-zero-or-pos, sub-zero, zero-add, zero-sub, suc-sub-suc, suc-add}
use native.Mathlib.Numerals.{add-one}
use native.Mathlib.Omega.{arith}
use lib.ListN.{length, get_or, set, take, drop, drop_of_length-le, length-drop}
use lib.Seq.{set_out, drop-cons, drop-nil, drop-drop, length-sets, length-take-le, take_all, take-append_seam}
use borrow.Rule.Slice.PartMut.{put_mid}
use Rattle.room.specs.Room.{written, Wrote}
use Rattle.room.specs.Helpers.{fitting}

-- A write keeps the room's length.
pub length_written : (r : List ℕ) (at : ℕ) (s : List ℕ) → length (written r at s) ≡ length r
length_written r at s = length-sets r at s

-- Past the end nothing is written.
pub written_out : (r : List ℕ) (at : ℕ) (s : List ℕ) → length r ≤ at → written r at s ≡ r
written_out r at [] h = refl
written_out r at (b ∷ s) h = rw (set_out r at b) (written_out r (suc at) s (omega arith))

pub nothing : (r : List ℕ) (at : ℕ) (s : List ℕ) → length r ≤ at → Wrote r at s r
nothing r at s h = record { leaves = sym (written_out r at s h) }

-- Two writes side by side are one.
pub written_append : (r : List ℕ) (at : ℕ) (s t : List ℕ) → written (written r at s) (at + length s) t ≡ written r at (s ++ t)
written_append r at [] t = ap (λ (k : ℕ). written r k t) (omega arith)
written_append r at (b ∷ s) t =
    let e : at + length (b ∷ s) ≡ suc at + length s = omega arith in
    rw e (written_append (set r at b) (suc at) s t)

-- And so where the second starts right behind the first.
pub beside : {r o p s t : List ℕ} {at k : ℕ} → Wrote r at s o → Wrote o k t p → k ≡ at + length s → Wrote r at (s ++ t) p
beside {r} {o} {p} {s} {t} {at} {k} w x l =
    record {
      leaves =
          x.leaves ∙ ap (λ (n : ℕ). written o n t) l ∙ ap (λ (q : List ℕ). written q (at + length s) t) w.leaves
          ∙ written_append r at s t;
    }

written_cons : (x : ℕ) (r : List ℕ) (at : ℕ) (s : List ℕ) → written (x ∷ r) (suc at) s ≡ x ∷ written r at s
written_cons x r at [] = refl
written_cons x r at (b ∷ s) = written_cons x (set r at b) (suc at) s

-- From the start of a room: what fits, and the rest of the room.
pub written_front : (r s : List ℕ) → written r 0 s ≡ take (length r) s ++ drop (length s) r
written_front [] s = written_out [] 0 s (omega arith) ∙ sym (drop-nil (length s))
written_front (x ∷ r) [] = refl
written_front (x ∷ r) (b ∷ s) = written_cons b r 0 s ∙ ap (λ (l : List ℕ). b ∷ l) (written_front r s)

-- What was written at the start of a room that holds it is read back there.
pub front : (room bytes : List ℕ) → length bytes ≤ length room → take (length bytes) (written room 0 bytes) ≡ bytes
front room bytes h = rw (written_front room bytes, take_all (length room) bytes h) (take-append_seam bytes (drop (length bytes) room))

-- From any place: the room before it, what fits, and the room behind. So all else is untouched.
pub written_is : (r : List ℕ) (at : ℕ) (s : List ℕ) → written r at s ≡ take at r ++ take (length r - at) s ++ drop (at + length s) r
written_is r zero s = rw (sub-zero, zero-add) (written_front r s)
written_is [] (suc at) s = rw (zero-sub, drop-nil) (written_out [] (suc at) s (omega arith))
written_is (x ∷ r) (suc at) s = rw (suc-sub-suc, suc-add) (written_cons x r at s ∙ ap (λ (l : List ℕ). x ∷ l) (written_is r at s))

-- The first n bytes of a room, lent to a writer of a page that is no shorter, and the rest of the room behind them:
-- the page's first n bytes, and the room untouched past n.
pub cut : (n : ℕ) (page r : List ℕ) {o : List ℕ} → Wrote (take n r) 0 page o → n ≤ length page → n ≤ length r → o ++ drop n r ≡ take n page ++ drop n r
cut n page r w hp hr =
    let l : length (take n r) ≡ n = length-take-le n r hr in
    rw (w.leaves, written_front (take n r) page, l, drop_of_length-le (take n r) {i = length page} (omega arith), append-nil)

-- The room from a place on, lent to a writer, where it begins there, and else none of it: what was written stands in the room from
-- that place on.
pub mid_page : {r s o : List ℕ} (at k : ℕ) → k ≡ min at (length r) → Wrote (take (length r - k) (drop k r)) 0 s o → Wrote r at s (put_mid k (length r - k) r o)
mid_page {r} {s} {o} at k e w =
    record {
      leaves =
          ap (λ (l : List ℕ). take k r ++ l) (ap (λ (l : List ℕ). o ++ l) (drop_of_length-le (drop k r) {i = length r - k} (omega (arith, length-drop k r))) ∙ append-nil o ∙ lent)
          ∙ ⊎_elim inside outside (eq-zero-or-pos (at - length r));
    }
  where
    lent : o ≡ written (drop k r) 0 s
    lent = w.leaves ∙ ap (λ (l : List ℕ). written l 0 s) (take_all (length r - k) (drop k r) (omega (arith, length-drop k r)))

    inside : at - length r ≡ 0 → take k r ++ written (drop k r) 0 s ≡ written r at s
    inside z =
        let here : k ≡ at = omega (arith, z, e) in
        rw (here, written_front (drop at r) s, length-drop at r, drop-drop (length s) at r, written_is r at s) (sym (append_assoc (take at r) (take (length r - at) s) (drop (at + length s) r)))

    outside : 0 < at - length r → take k r ++ written (drop k r) 0 s ≡ written r at s
    outside z =
        let here : k ≡ length r = omega (arith, z, e) in
        rw (here, drop_of_length-le r {i = length r} (omega arith), written_out [] 0 s (omega arith), append-nil, written_out r at s (omega arith)) (take_all (length r) r (omega arith))

-- A loop that writes s, before its turn at byte i: what is left to write takes the room to where it is to be.
pub record Writing (r : List ℕ) (at : ℕ) (s : List ℕ) (o : List ℕ) (i : ℕ) : Type 0 where
  pub same : length o ≡ length r
  pub left : written o (at + i) (drop i s) ≡ written r at s

pub begin : (r : List ℕ) (at : ℕ) (s : List ℕ) → Writing r at s r 0
begin r at s = record { same = refl; left = ap (λ (k : ℕ). written r k s) (omega arith) }

-- A turn that writes a piece of s, from its byte i up to its byte k.
pub turn : {r s o p piece : List ℕ} {at i k : ℕ} → Writing r at s o i → Wrote o (at + i) piece p → drop i s ≡ piece ++ drop k s → k ≡ i + length piece → Writing r at s p k
turn {r} {s} {o} {p} {piece} {at} {i} {k} w x e l =
    let m : at + k ≡ at + i + length piece = omega arith in
    record {
      same = ap length x.leaves ∙ length_written o (at + i) piece ∙ w.same;
      left = rw (m, x.leaves) (written_append o (at + i) piece (drop k s) ∙ ap (λ (t : List ℕ). written o (at + i) t) (sym e) ∙ w.left);
    }

pub done : {r s o : List ℕ} {at i : ℕ} → Writing r at s o i → fitting (length r) at (length s) ≤ i → Wrote r at s o
done {r} {s} {o} {at} {i} w h =
    record {
      leaves =
          ⊎_elim (λ z. rw (drop_of_length-le s {i = i} (omega arith)) at w.left)
          (λ z. sym (written_out o (at + i) (drop i s) (omega (arith, w.same))) ∙ w.left) (eq-zero-or-pos (length s - i));
    }

-- The pieces of such loops: one byte, and four.
pub next : (s : List ℕ) (i : ℕ) → i < length s → drop i s ≡ get_or s i 0 ∷ drop (i + 1) s
next s i h = rw add-one (drop-cons s i 0 h)

pub four : (s : List ℕ) (i : ℕ) → i + 4 ≤ length s → drop i s ≡ get_or s i 0 ∷ get_or s (i + 1) 0 ∷ get_or s (i + 2) 0 ∷ get_or s (i + 3) 0 ∷ drop (i + 4) s
four s i h =
    let two : i + 1 + 1 ≡ i + 2 = omega arith in
    let three : i + 2 + 1 ≡ i + 3 = omega arith in
    let last : i + 3 + 1 ≡ i + 4 = omega arith in
    next s i (omega arith)
    ∙ ap (λ (t : List ℕ). get_or s i 0 ∷ t) (rw two at (next s (i + 1) (omega arith)))
    ∙ ap (λ (t : List ℕ). get_or s i 0 ∷ get_or s (i + 1) 0 ∷ t) (rw three at (next s (i + 2) (omega arith)))
    ∙ ap (λ (t : List ℕ). get_or s i 0 ∷ get_or s (i + 1) 0 ∷ get_or s (i + 2) 0 ∷ t) (rw last at (next s (i + 3) (omega arith)))
