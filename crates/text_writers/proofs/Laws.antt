-- Laws of writing a turned text whole words at a time.
use mathlib.Core.Path.{◌≡◌, ap, ◌∙◌, sym}
use mathlib.Core.List.{List, ◌∷◌, ◌++◌, map}
use Prim.Native.Nat.{ℕ, ◌+◌, ◌%◌, ◌≤◌}
use native.Mathlib.Omega.{arith}
use lib.ListN.{length, get_or, take, drop, length-drop, take-append-drop}
use lib.Seq.{drop-drop, length-take-le}
use Rattle.room.specs.Room.{Wrote}
use Rattle.room.proofs.Laws.{four, Writing, turn}
use Rattle.texts.specs.Text.{turned, space, spaced}
use Rattle.texts.proofs.Text.{length_text, word_first, word_second}

-- Two words of a turned text at once, and what follows them; then four.
module _ (f : ℕ → ℕ) (s : List ℕ) (i : ℕ) (even : i % 2 ≡ 0) (h : i + 4 ≤ length s) where
  pub two_words : drop i (map f (turned s)) ≡ f (get_or s (i + 1) 0) ∷ f (get_or s i 0) ∷ f (get_or s (i + 3) 0) ∷ f (get_or s (i + 2) 0) ∷ drop (i + 4) (map f (turned s))
  two_words =
      let third : i + 2 + 1 ≡ i + 3 = omega arith in
      rw (word_first f s i even (omega arith), word_second f s i even (omega arith), rw third at (word_first f s (i + 2) (omega arith) (omega arith)), rw third at (word_second f s (i + 2) (omega arith) (omega arith))) at (four (map f (turned s)) i (omega (arith, length_text f s)))

pub four_words : (f : ℕ → ℕ) (s : List ℕ) (i : ℕ) → i % 2 ≡ 0 → i + 8 ≤ length s → drop i (map f (turned s)) ≡ f (get_or s (i + 1) 0) ∷ f (get_or s i 0) ∷ f (get_or s (i + 3) 0) ∷ f (get_or s (i + 2) 0) ∷ f (get_or s (i + 5) 0) ∷ f (get_or s (i + 4) 0) ∷ f (get_or s (i + 7) 0) ∷ f (get_or s (i + 6) 0) ∷ drop (i + 8) (map f (turned s))
four_words f s i even h =
    let five : i + 4 + 1 ≡ i + 5 = omega arith in
    let six : i + 4 + 2 ≡ i + 6 = omega arith in
    let seven : i + 4 + 3 ≡ i + 7 = omega arith in
    let eight : i + 4 + 4 ≡ i + 8 = omega arith in
    two_words f s i even (omega arith)
    ∙ ap (λ (t : List ℕ). f (get_or s (i + 1) 0) ∷ f (get_or s i 0) ∷ f (get_or s (i + 3) 0) ∷ f (get_or s (i + 2) 0) ∷ t) (rw (five, six, seven, eight) at (two_words f s (i + 4) (omega arith) (omega arith)))

-- A turn that writes the next n bytes of a text, turned and spaced.
pub next_piece : {r o p : List ℕ} {at i : ℕ} (n : ℕ) (text : List ℕ) → i + n ≤ length text → Writing r at (spaced (turned text)) o i → Wrote o (at + i) (take n (drop i (spaced (turned text)))) p → Writing r at (spaced (turned text)) p (i + n)
next_piece {i = i} n text h w x =
    let s = spaced (turned text) in
    let size : length (take n (drop i s)) ≡ n = length-take-le n (drop i s) (rw length-drop (omega (arith, length_text space text))) in
    turn w x (sym (take-append-drop n (drop i s)) ∙ ap (λ (t : List ℕ). take n (drop i s) ++ t) (drop-drop n i s)) (ap (λ (k : ℕ). i + k) (sym size))
