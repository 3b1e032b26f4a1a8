-- Laws of page 89h beside the one of what it tells itself.
use mathlib.Core.Path.{◌≡◌, refl, ap, ◌∙◌}
use mathlib.Core.Bool.{false}
use mathlib.Core.List.{List, ◌++◌, append_assoc}
use Prim.Native.Nat.{ℕ, ◌+◌, ◌≤◌}
use native.Mathlib.Omega.{arith}
use lib.ListN.{length, take, drop, length-take, length-drop}
use lib.Seq.{take_all}
use borrow.Author.Tests.{ne_eqb}
use Rattle.agreement.specs.Agreed.{agreed}
use Rattle.agreement.proofs.Laws.{agreed_own, then_second}
use Rattle.pages.specs.Page.{information_head, information_code, page89, block_or_zeros}
use Rattle.pages.proofs.Laws.{length_page89}
use Rattle.checker.specs.Check.{texts_of, signature_of, block_of}

-- Page 89h beside the one of its own texts, signature and block: behind the head only the command code can differ.
module _ (page : List ℕ) (h : length page ≡ 572) where
  pub own_block : block_or_zeros (block_of page) ≡ block_of page
  own_block = rw (ne_eqb (length (drop 60 page)) 0 (λ e. omega (arith, e, length-drop 60 page)))

  -- The page, its pieces to the right.
  pub own_page : page89 false (texts_of page) (signature_of page) (block_of page) ≡ information_head false page ++ (texts_of page ++ (signature_of page ++ (information_code false ++ block_of page)))
  unfolding page89
  own_page =
      let h = information_head false page in
      let code = information_code false in
      ap (λ (b : List ℕ). h ++ texts_of page ++ signature_of page ++ code ++ b) own_block
      ∙ append_assoc (h ++ texts_of page ++ signature_of page) code (block_of page)
      ∙ append_assoc (h ++ texts_of page) (signature_of page) (code ++ block_of page)
      ∙ append_assoc h (texts_of page) (signature_of page ++ (code ++ block_of page))

  pub behind_head : {r t : ℕ} → r ≡ 0 + agreed page (information_head false page) → 8 ≤ r → t ≡ 56 + agreed (drop 56 page) (information_code false ++ block_of page) → t ≡ agreed page (page89 false (texts_of page) (signature_of page) (block_of page))
  behind_head {r} {t} e g k =
      let rest = information_code false ++ block_of page in
      let signed = then_second page (signature_of page) rest 36 56 (ap (λ (n : ℕ). 36 + n) (piece 36 20 (omega arith))) (agreed_own page 36 20 56 refl (omega arith)) (omega arith) k in
      let titled = then_second page (texts_of page) (signature_of page ++ rest) 8 36 (ap (λ (n : ℕ). 8 + n) (piece 8 28 (omega arith))) (agreed_own page 8 28 36 refl (omega arith)) (omega arith) signed in
      rw own_page (omega (arith, then_second page (information_head false page) (texts_of page ++ (signature_of page ++ rest)) 0 8 refl e g titled))
    where
      piece : (at n : ℕ) → at + n ≤ 572 → length (take n (drop at page)) ≡ n
      piece at n l = simp (length-take, length-drop) (omega arith)

  pub length_own : length (page89 false (texts_of page) (signature_of page) (block_of page)) ≡ 572
  length_own =
      let texts : length (texts_of page) ≡ 28 = simp (length-take, length-drop) (omega arith) in
      let signature : length (signature_of page) ≡ 20 = simp (length-take, length-drop) (omega arith) in
      length_page89 false (texts_of page) (signature_of page) (block_of page) texts signature ∙ rw own_block (omega (arith, length-drop 60 page))

  pub to_the_block : {r : ℕ} → r ≡ 56 + agreed (drop 56 page) (information_code false) → 60 ≤ r → 572 ≡ 56 + agreed (drop 56 page) (information_code false ++ block_of page)
  to_the_block e g =
      let all : take 512 (drop 60 page) ≡ drop 60 page = take_all 512 (drop 60 page) (omega (arith, length-drop 60 page)) in
      then_second page (information_code false) (block_of page) 56 60 refl e g (rw all at (agreed_own page 60 512 572 refl (omega arith)))
