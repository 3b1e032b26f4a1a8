-- Laws of what is read: texts without zero bytes, the page's head, what is left behind a place, and the ports.
use mathlib.Core.Path.{◌≡◌, refl, sym, ap, ◌∙◌}
use mathlib.Core.Bool.{Bool, true, false, ◌&&◌, and-false, true≢false}
use mathlib.Core.List.{List, [], ◌∷◌}
use mathlib.Core.Logic.{⊎_elim}
use Prim.Native.Nat.{ℕ, zero, suc, ◌-◌, ◌≤◌, ◌<◌}
use native.Mathlib.Nat.{eq-zero-or-pos, le_of_suc-le-suc, not-suc-le-zero}
use native.Mathlib.Omega.{arith}
use lib.Dec.{eqb}
use lib.ListN.{length, get_or, take, drop, length-take, length-drop, get_or-eq_default}
use lib.Seq.{take_all, get_or-take}
use borrow.Author.Tests.{eq-eqb, ne_eqb}
use Rattle.identify.specs.Bytes.{equal}
use Rattle.identify.proofs.Bytes.{not_equal}
use Rattle.page83_drive.specs.Descriptor.{head}
use Rattle.page83_reader.specs.Reader.{no_zero, headed, two_bytes, relative_in, tells_sas, sas_or_nothing}

-- No byte is zero where none is at any place, and one is where one is at some place.
pub all_nonzero : (s : List ℕ) → ((k : ℕ) → k < length s → get_or s k 0 ≡ 0 → ⊥) → no_zero s ≡ true
unfolding no_zero
all_nonzero [] z = refl
all_nonzero (b ∷ s) z = rw (ne_eqb b 0 (z 0 (omega arith))) (all_nonzero s (λ k h. z (suc k) (omega arith)))

pub zero_at : (s : List ℕ) (k : ℕ) → k < length s → get_or s k 0 ≡ 0 → no_zero s ≡ false
unfolding no_zero
zero_at [] k h e = absurd (not-suc-le-zero h)
zero_at (b ∷ s) zero h e = rw (eq-eqb b 0 e)
zero_at (b ∷ s) (suc k) h e = rw (zero_at s k (le_of_suc-le-suc h) e, and-false)

pub to_the_end : (n : ℕ) (page : List ℕ) → take (length page - n) (drop n page) ≡ drop n page
to_the_end n page = take_all (length page - n) (drop n page) (omega (arith, length-drop n page))

-- The head, byte by byte; a page that is too short for one, or has another number in byte 3, has none.
in_turn_is : (p q r s : Bool) → (p && (q && (r && (s && true)))) ≡ (p && q && r && s)
in_turn_is false q r s = refl
in_turn_is true false r s = refl
in_turn_is true true false s = refl
in_turn_is true true true false = refl
in_turn_is true true true true = refl

pub headed_by_bytes : (page : List ℕ) → 4 ≤ length page → headed page ≡ (eqb (get_or page 0 0) 0x00 && eqb (get_or page 1 0) 0x83 && eqb (get_or page 2 0) 0x00 && eqb (get_or page 3 0) (length page - 4))
unfolding equal
headed_by_bytes [] h = absurd (omega arith)
headed_by_bytes (a ∷ []) h = absurd (omega arith)
headed_by_bytes (a ∷ b ∷ []) h = absurd (omega arith)
headed_by_bytes (a ∷ b ∷ c ∷ []) h = absurd (omega arith)
headed_by_bytes (a ∷ b ∷ c ∷ d ∷ page) h = in_turn_is (eqb a 0x00) (eqb b 0x83) (eqb c 0x00) (eqb d (length (a ∷ b ∷ c ∷ d ∷ page) - 4))

pub too_short : (page : List ℕ) → length page < 4 → headed page ≡ false
too_short page h = not_equal (take 4 page) (head (length page - 4)) (λ e. omega (arith, ap length e, length-take 4 page))

pub other_length : (page : List ℕ) → (length page - 4 ≡ get_or page 3 0 → ⊥) → headed page ≡ false
other_length page n =
    not_equal (take 4 page) (head (length page - 4))
    (λ e. n (sym (sym (get_or-take 4 page 3 0 (omega arith)) ∙ ap (λ (l : List ℕ). get_or l 3 0) e)))

-- Bytes that start with a relative target port have all of it.
none_in_few : (bytes : List ℕ) → length bytes < 8 → relative_in bytes ≡ 0
unfolding relative_in
none_in_few bytes h =
    let none = get_or-eq_default bytes 0 {n = 7} (omega arith) in
    let one = ne_eqb (two_bytes bytes) 1 (λ e. omega (arith, e, none)) in
    let two = ne_eqb (two_bytes bytes) 2 (λ e. omega (arith, e, none)) in
    rw (one, two, and-false)

pub relative_long : (bytes : List ℕ) → (relative_in bytes ≡ 0 → ⊥) → 8 ≤ length bytes
relative_long bytes n =
    ⊎_elim (λ z. omega (arith, z)) (λ z. absurd (n (none_in_few bytes (omega (arith, z))))) (eq-zero-or-pos (8 - length bytes))

-- Bytes that are a SAS target port or none, and not 12, are none.
pub no_sas : (sas : List ℕ) → sas_or_nothing sas ≡ true → (length sas ≡ 12 → ⊥) → sas ≡ []
unfolding tells_sas
no_sas [] h n = refl
no_sas (b ∷ sas) h n = absurd (true≢false (sym h ∙ rw (ne_eqb (length (b ∷ sas)) 0 (λ e. omega (arith, e)), ne_eqb (length (b ∷ sas)) 12 n)))
