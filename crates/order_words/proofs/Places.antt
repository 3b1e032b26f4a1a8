-- The place of an element that passes a test.
use Rattle.std.proofs.Common.{◌≡◌, refl, sym, ◌∙◌, ℕ, Bool, List, [], ◌∷◌, map, Option, position, Bor}
use Rattle.std.proofs.lemmas.List.{length-map}
use Rattle.std.proofs.lemmas.Iterator.{YieldsList}
use Rattle.std.proofs.lemmas.Iterator.Search.{position_from_yields_List}
use Rattle.std.specs.Fn.{Called}
use Rattle.std.specs.Iterator.{FindsPosition}
use Rattle.std.specs.List.{position_or_len}
use Rattle.std.specs.Str.{bytes_eq}
use denote.Param.Members.{Mut}
use Rattle.order_words.specs.Words.{place_of}

place_at_map : {A B : Type 0} (p : B → Bool) (f : A → B) (xs : List A) → position_or_len p (map f xs) ≡ position_or_len (λ x. p (f x)) xs
place_at_map p f [] = refl
place_at_map p f (x ∷ xs) = rw (place_at_map p f xs)

pub position_at_map : {A B : Type 0} (p : B → Bool) (f : A → B) (xs : List A) → position p (map f xs) ≡ position (λ x. p (f x)) xs
position_at_map p f xs = rw (place_at_map p f xs, length-map)

-- What std's `position` finds among references to words, by a test for one word: its place among what they point to.
pub place_found : {S F : Type 0} {steps : S → Option (Bor (Bor (List ℕ))) → S → Type 0} {tests : Mut F (Bor (Bor (List ℕ)) × Unit {0}) Bool} {s : S} (u : S) (f : F) (word : List ℕ) (list : List (Bor (List ℕ))) (found : Option ℕ) → FindsPosition steps tests s f found u → YieldsList steps (λ x. x.now) s list → ((x : Bor (Bor (List ℕ))) (b : Bool) (q : F) → Called tests f (x, tt) b q → (q ≡ f) × (b ≡ bytes_eq word x.now.now)) → found ≡ place_of word (map (λ other. other.now) list)
place_found u f word list found ran yields compared =
    position_from_yields_List (λ other. bytes_eq word other.now) u f found ran yields compared
    ∙ sym (position_at_map (bytes_eq word) (λ other. other.now) list)
