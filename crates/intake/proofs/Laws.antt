-- Laws of intakes and of runs.
use Rattle.std.proofs.Common.{◌≡◌, ℕ, zero, suc, ◌-◌, ◌≤◌, Bool, true, false, cond, not, eqb, ltb, List, [], ◌∷◌, ◌++◌, length, take, refl, ap, arith, take_all, ltb-false, eqb-true}
use native.Mathlib.Nat.{suc-sub-suc}
use borrow.Author.Tests.{not-false}
use Rattle.rules.proofs.First.{neither}
use Rattle.intake.specs.Intake.{wrong_intake, complete, block_of, offer, offered}

-- An intake that is not refused has a store of 512 bytes, and claims no more.
pub right : (have store : ℕ) → wrong_intake have store ≡ false → (store ≡ 512) × (have ≤ 512)
right have store e =
    let both = neither (not (eqb store 512)) (ltb 512 have) e in
    (eqb-true _ _ (not-false _ both.0), ltb-false _ _ both.1)

-- What is offered as a number is the block: the store's front, of as many bytes.
pub offered_front : (have : ℕ) (store : List ℕ) → wrong_intake have (length store) ≡ false → take (offered have (length store)).count store ≡ block_of have store
unfolding offered
offered_front have store e = rw e (by (complete have))
  where
    by : (b : Bool) → take (cond b (offer 0 512) (offer 0 0)).count store ≡ cond b store []
    by true = take_all 512 store (omega (arith, (right have (length store) e).0))
    by false = refl

-- What is taken of two runs in a row: of the first, and of the second what the first leaves to take.
pub take_join : (n : ℕ) (a b : List ℕ) → take n (a ++ b) ≡ take n a ++ take (n - length (take n a)) b
take_join zero [] b = refl
take_join (suc n) [] b =
    let e : suc n ≡ suc n - 0 = omega arith in
    ap (λ (k : ℕ). take k b) e
take_join zero (x ∷ a) b = refl
take_join (suc n) (x ∷ a) b = rw suc-sub-suc (ap (λ (r : List ℕ). x ∷ r) (take_join n a b))
