-- A step that leaves the record's state leaves the record: what it moves, it moves from nothing to an order, from an order to one with a
-- reset over it, or to nothing. And a command that leaves it makes no order.
use mathlib.Core.Path.{◌≡◌, refl, sym, ap, ◌∙◌}
use mathlib.Core.Bool.{Bool, true, false, cond, not, ◌&&◌, true≢false}
use mathlib.Core.List.{List}
use Prim.Native.Nat.{ℕ}
use lib.Dec.{eqb, eqb→eq, T as Holds}
use lib.ListN.{length}
use borrow.Author.Tests.{eqb-true}
use Rattle.rules.proofs.First.{silent, neither}
use Rattle.passthrough_fields.specs.Fields.{protocol}
use Rattle.passthrough_order.specs.Order.{reset}
use Rattle.passthrough.specs.declared.Pending.{Pending}
use Rattle.passthrough.specs.declared.Submitted.{Submitted}
use Rattle.passthrough.specs.declared.Completed.{Completed}
use Rattle.passthrough.specs.Record.{nothing_pending, reset_over, taking}
use Rattle.passthrough.specs.Submit as Submit
use Rattle.passthrough.specs.Complete as Complete
use Rattle.passthrough.proofs.Over.{taken_over}

-- How the code asks for it: two numbers that are not different.
settled : (b : Bool) → Holds (not (not b)) → Holds b
settled true z = z
settled false z = z

pub same_number : (m n : ℕ) → Holds (not (not (eqb m n))) → m ≡ n
same_number m n z = eqb→eq m n (settled (eqb m n) z)

module _ (p : Pending) (command registers block : List ℕ) (declared edition form : ℕ) (sense : List ℕ) where
  abbrev refusal : ℕ
  refusal = Submit.refusal_of p command registers block declared edition (length sense)

  -- An order that is taken moves the state: from none to one, or to two, where no reset was over the order.
  moved : (free : Bool) → nothing_pending p ≡ free → refusal ≡ 0 → eqb (protocol command) 15 ≡ false → (taking p (Submit.made command block declared edition)).state ≡ p.state → ⊥
  moved true n e f h = true≢false (sym n ∙ ap (λ (s : ℕ). eqb s 0) (sym h) ∙ rw n)
  moved false n e f h =
      let over = (taken_over p command registers block declared edition (length sense) e f n).1 in
      true≢false (ap (λ (s : ℕ). eqb s 2) (rw n at h) ∙ (neither (reset_over p) (not (nothing_pending p) && reset p.order.protocol) over).0)

  -- What comes back of a command that leaves the record.
  abbrev pub unmoved : Submitted → Submitted
  unmoved r = record { next = p; taken = Submit.none_taken r.taken.number r.taken.status }

  unmoved_by : (b told : Bool) → eqb refusal 0 ≡ b → eqb (protocol command) 15 ≡ told
      → let o = cond b (cond told (Submit.reported p registers form sense) (Submit.taken p (Submit.made command block declared edition) sense)) (Submit.refused p form refusal sense) in
      o.submitted.next.state ≡ p.state → o.submitted ≡ unmoved o.submitted
  unmoved_by false told e f h = refl
  unmoved_by true true e f h = refl
  unmoved_by true false e f h = absurd (moved (nothing_pending p) refl (eqb-true refusal 0 e) f h)

  pub submit_unmoved : {r : Submitted} {s : List ℕ} → Submit.outcome r s ≡ Submit.submit p command registers block declared edition form sense → r.next.state ≡ p.state → r ≡ unmoved r
  unfolding Submit.submit
  submit_unmoved e h =
      let n = ap (λ (o : Submit.Outcome). o.submitted) e in
      n ∙ unmoved_by (eqb refusal 0) (eqb (protocol command) 15) refl refl (ap (λ (q : Submitted). q.next.state) (sym n) ∙ h) ∙ ap unmoved (sym n)

module _ (p : Pending) (registers : List ℕ) (form : ℕ) (sense : List ℕ) where
  abbrev ending : ℕ
  ending = Complete.refusal_of p registers (length sense)

  -- An order is ended only where one was pending.
  some_pending : ending ≡ 0 → nothing_pending p ≡ true → ⊥
  unfolding Complete.refusal_of
  some_pending e n = true≢false (sym n ∙ (silent (Complete.checks_of p registers (length sense)) refl e).1.0)

  ended_by : (b : Bool) → eqb ending 0 ≡ b → let o = cond b (Complete.ended p registers form sense) (Complete.refused p form ending sense) in o.completed.next.state ≡ p.state → o.completed.next ≡ p
  ended_by false e h = refl
  ended_by true e h = absurd (some_pending (eqb-true ending 0 e) (rw (← h)))

  pub complete_unmoved : {r : Completed} {s : List ℕ} → Complete.outcome r s ≡ Complete.complete p registers form sense → r.next.state ≡ p.state → r.next ≡ p
  unfolding Complete.complete
  complete_unmoved e h =
      let n = ap (λ (o : Complete.Outcome). o.completed.next) e in
      n ∙ ended_by (eqb ending 0) refl (ap (λ (q : Pending). q.state) (sym n) ∙ h)
