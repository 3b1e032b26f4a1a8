-- When a run and a page beside it are the same.
use mathlib.Core.Path.{◌≡◌, refl, sym, ap, ◌∙◌}
use mathlib.Core.Bool.{Bool, true, false, ◌&&◌, true≢false}
use mathlib.Core.List.{List}
use Prim.Native.Nat.{ℕ}
use lib.Dec.{eqb}
use lib.ListN.{length}
use borrow.Author.Tests.{eq-eqb, eqb-true}
use Rattle.identify.specs.Bytes.{equal}
use Rattle.identify.proofs.Bytes.{equal_of, equal_same, never}
use Rattle.agreement.specs.Agreed.{agreed}
use Rattle.agreement.specs.Helpers.{beside}
use Rattle.agreement.proofs.Laws.{agreed_self, agreed_whole}

-- Two runs are the same where they agree to the end of both.
same_is : (bytes page : List ℕ) → equal bytes page ≡ (eqb (agreed bytes page) (length page) && eqb (length bytes) (length page))
same_is bytes page = by (eqb (agreed bytes page) (length page)) refl (eqb (length bytes) (length page)) refl
  where
    apart : (equal bytes page ≡ true → ⊥) → equal bytes page ≡ false
    apart n = never (equal bytes page) n

    by : (a : Bool) → eqb (agreed bytes page) (length page) ≡ a → (b : Bool) → eqb (length bytes) (length page) ≡ b → equal bytes page ≡ (a && b)
    by true e true l = equal_of (agreed_whole bytes page (eqb-true _ _ e) (eqb-true _ _ l))
    by true e false l = apart (λ t. true≢false (sym (eq-eqb _ _ (ap length (equal_same bytes page t))) ∙ l))
    by false e b l = apart (λ t. true≢false (sym (eq-eqb _ _ (ap (agreed bytes) (sym (equal_same bytes page t)) ∙ agreed_self bytes ∙ ap length (equal_same bytes page t))) ∙ e))

-- So the two lengths and the place up to which they agree tell it all.
pub held_is : (bytes page : List ℕ) {place size : ℕ} → place ≡ agreed bytes page → size ≡ length page → record { same = eqb place size && eqb (length bytes) size; place = place } ≡ beside bytes page
unfolding beside
held_is bytes page p s = rw (p, s, same_is bytes page)
