-- What is written, call by call, at the end of a text in a fixed room.
use Rattle.std.proofs.Common.{◌≡◌, ℕ, List, [], ◌∷◌, ◌++◌, Option, None, Some, sym, ap, subst, ◌∙◌, append_assoc}
use Rattle.std.proofs.lemmas.List.{append-nil}
use Rattle.std.specs.List.{concat, FoldsTo}
use Rattle.std.specs.Fmt.{WritesText}
use Rattle.arrayvec.specs.ArrayString.{ArrayString}

abbrev pub gives : ArrayString → List ℕ → ArrayString → Type 0
gives s bytes t = t.bytes ≡ s.bytes ++ bytes

-- Calls that each write some bytes write them all, one behind the other.
pub joined : (s t : ArrayString) (parts : List (List ℕ)) → FoldsTo gives s parts t → t.bytes ≡ s.bytes ++ concat parts
joined s t [] calls = ap (λ u. u.bytes) (sym calls) ∙ sym (append-nil s.bytes)
joined s t (part ∷ parts) calls =
    joined calls.0 t parts calls.2 ∙ ap (λ bytes. bytes ++ concat parts) calls.1 ∙ append_assoc s.bytes part (concat parts)

-- Where it is known what is written into an empty room, the room holds just that.
pub written : (s t : ArrayString) (text : Option (List ℕ)) → s.bytes ≡ [] → WritesText gives s text t → (P : Option (List ℕ) → Type 0) → P None → P (Some t.bytes) → P text
written s t None empty writes P none some = none
written s t (Some bytes) empty writes P none some =
    subst (λ b. P (Some b)) (joined s t writes.parts writes.calls ∙ ap (λ b. b ++ concat writes.parts) empty ∙ writes.whole) some
