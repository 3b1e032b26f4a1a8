-- One run, of an intake that lacks bytes: it uses some of a run that has any, and where it is not told complete it still lacks some.
use Rattle.std.proofs.Common.{◌≡◌, ℕ, ◌+◌, ◌<◌, ◌≤◌, Bool, true, false, eqb, List, length, refl, ap, ◌∙◌, arith, length-take, le-ltb, eq-eqb}
use borrow.Author.Tests.{eqb-false}
use Rattle.rules.specs.Bits.{flag}
use Rattle.intake.specs.declared.Intake.{Intake}
use Rattle.intake.specs.declared.Took.{Took}
use Rattle.intake.specs.Intake.{Outcome, outcome, used, used_by, taken}

module _ (held : Intake) (store run : List ℕ) (h : held.have < 512) (l : length store ≡ 512) (p : 0 < length run) where
  is_used : taken held store run ≡ used held store (used_by held.have run)
  unfolding taken
  is_used = rw (eq-eqb _ _ l, le-ltb 512 held.have (omega arith))

  some : (0 < length (used_by held.have run)) × (length (used_by held.have run) ≤ length run) × (held.have + length (used_by held.have run) ≤ 512)
  some = rw length-take (omega (arith, h, p), omega arith, omega (arith, h))

  module _ (t : Took) (after : List ℕ) (e : outcome t after ≡ taken held store run) where
    told : t ≡ (used held store (used_by held.have run)).took
    told = ap (λ (o : Outcome). o.took) (e ∙ is_used)

    pub uses_some : (0 < t.used) × (t.used ≤ length run)
    uses_some = rw told (some.0, some.1)

    pub still_lacks : (t.complete ≡ 1 → ⊥) → t.next.have < 512
    still_lacks n = rw told (by (eqb (held.have + length (used_by held.have run)) 512) refl (λ o. n (rw told o)))
      where
        by : (b : Bool) → eqb (held.have + length (used_by held.have run)) 512 ≡ b → (flag b ≡ 1 → ⊥) → held.have + length (used_by held.have run) < 512
        by true e k = absurd (k refl)
        by false e k =
            let other = eqb-false (held.have + length (used_by held.have run)) 512 e in
            omega (arith, some.2, other)
