-- The ATA command (demand 2): nothing of what comes of a submission hangs on it, but the field of the order that holds it.
use mathlib.Core.Path.{◌≡◌, refl, sym, ◌∙◌}
use mathlib.Core.Bool.{Bool, true, false, cond, not}
use mathlib.Core.Logic.{◌⊎◌, ⊎_elim}
use mathlib.Core.List.{List}
use Prim.Native.Nat.{ℕ}
use native.Mathlib.Omega.{arith}
use lib.Dec.{eqb}
use lib.ListN.{length, get_or, set, length-set}
use lib.Seq.{get_or-set_same, get_or-set_other}
use borrow.Author.Tests.{eqb-true, eqb-false, eq-eqb, le-ltb}
use Rattle.rules.proofs.First.{silent}
use Rattle.refusals.specs.Refusal.{no_status}
use Rattle.passthrough_fields.specs.Fields.{long, longest, protocol}
use Rattle.passthrough_fields.specs.Helpers.{Whole}
use Rattle.passthrough_length.specs.Length.{length_of}
use Rattle.passthrough_checks.proofs.Laws.{whole}
use Rattle.passthrough_order.specs.Order.{reset, order_of}
use Rattle.passthrough_order.specs.declared.Order.{Order}
use Rattle.passthrough_checks.specs.Checks as Checks
use Rattle.passthrough.specs.declared.Pending.{Pending}
use Rattle.passthrough.specs.Record.{holding, over, nothing_pending, reset_pending}
use Rattle.passthrough.specs.Submit as Submit
use Rattle.passthrough.specs.Submit.{is_later, made}
use Rattle.demands.specs.Promises.{Refused, Submission, outcome_of, number_of, with_command, with_ata_command, differs_in_command, OnlyTheCommandDiffers, OutcomesDifferInTheCommand}
use Rattle.demands.proofs.Order.{refusal, zero, taken, number_is, refused_is, outcome_is}

-- A byte elsewhere is kept.
kept : (c : List ℕ) (i j v : ℕ) → eqb j i ≡ false → get_or (set c i v) j 0 ≡ get_or c j 0
kept c i j v h = get_or-set_other c i j v 0 (eqb-false _ _ h)

-- Two whole commands that differ in the ATA command alone make orders that differ in the field `command` alone; of resets,
-- whose orders hold no ATA command, they make the same order.
module _ (c block : List ℕ) (declared edition v : ℕ) (w : Whole c) where
  in_form : (b d q : Bool) → longest c ≡ b → long c ≡ d → reset (protocol c) ≡ q → made (set c (cond b 25 (cond d 14 9)) v) block declared edition ≡ cond q (made c block declared edition) (with_command v (made c block declared edition))
  unfolding order_of length_of
  in_form true d true s l r = simp (kept, s, rw s at r)
  in_form true d false s l r =
      let h = w.thirty_two s in
      simp (kept, get_or-set_same c 25 v 0 (omega arith), s, rw s at r)
  in_form false true true s l r = simp (kept, s, l, rw s at r)
  in_form false false true s l r = simp (kept, s, l, rw s at r)
  in_form false true false s l r =
      let h = w.sixteen l in
      simp (kept, get_or-set_same c 14 v 0 (omega arith), s, l, rw s at r)
  in_form false false false s l r = simp (kept, get_or-set_same c 9 v 0 (omega arith), s, l, rw s at r)

pub only_the_command_differs : OnlyTheCommandDiffers
only_the_command_differs c block declared edition v h =
    in_form c block declared edition v (whole c (le-ltb _ _ h)) (longest c) (long c) (reset (protocol c)) refl refl refl

-- The order goes into the record as it is, by itself or over another.
into : (p : Pending) (v : ℕ) (order : Order) (sense : List ℕ) → Submit.taken p (with_command v order) sense ≡ differs_in_command v (Submit.taken p order sense)
into p v order sense = by (nothing_pending p)
  where
    put : Bool → Order → Submit.Outcome
    put b o = Submit.outcome (Submit.answer (cond b (holding o) (over p.order o)) 0 no_status o) sense

    by : (b : Bool) → put b (with_command v order) ≡ differs_in_command v (put b order)
    by true = refl
    by false = refl

-- And they are refused alike, whole or not: no check looks at the ATA command.
module _ (s : Submission) (v : ℕ) where
  abbrev c : List ℕ
  c = s.command

  protocol_in : (b d : Bool) → longest c ≡ b → protocol (set c (cond b 25 (cond d 14 9)) v) ≡ protocol c
  protocol_in true d e = simp (kept, e)
  protocol_in false true e = simp (kept, e)
  protocol_in false false e = simp (kept, e)

  refused_in : (b d : Bool) → longest c ≡ b → long c ≡ d → Submit.refusal_of s.record_given (set c (cond b 25 (cond d 14 9)) v) s.registers s.block s.declared s.edition (length s.sense) ≡ refusal s
  unfolding Checks.refusal_of length_of
  refused_in true d e l = simp (kept, length-set, e)
  refused_in false true e l = simp (kept, length-set, e, l)
  refused_in false false e l = simp (kept, length-set, e, l)

  abbrev other : Submission
  other = with_ata_command v s

  same_protocol : protocol other.command ≡ protocol c
  same_protocol = protocol_in (longest c) (long c) refl

  same_number : number_of other ≡ number_of s
  same_number = number_is other ∙ refused_in (longest c) (long c) refl refl ∙ sym (number_is s)

  refused_alike : Refused (number_of s) → outcome_of other ≡ outcome_of s
  refused_alike h = refused_is other (λ z. h (sym same_number ∙ z)) ∙ rw same_number (sym (refused_is s h))

  -- A command that is accepted is whole.
  whole_command : number_of s ≡ 0 → Whole c
  unfolding Checks.refusal_of
  whole_command e =
      whole c (silent (Checks.checks_of (not (nothing_pending s.record_given)) (reset_pending s.record_given) (is_later s.edition) c (length s.registers) s.block s.declared (length s.sense)) refl (zero s e)).1.1.1.1.1.0

  module _ (e : number_of s ≡ 0) where
    abbrev order : Order
    order = made c s.block s.declared s.edition

    accepted_too : number_of other ≡ 0
    accepted_too = same_number ∙ e

    made_is : made other.command s.block s.declared s.edition ≡ cond (reset (protocol c)) order (with_command v order)
    made_is = in_form c s.block s.declared s.edition v (whole_command e) (longest c) (long c) (reset (protocol c)) refl refl refl

    taken_too : (protocol c ≡ 15 → ⊥) → outcome_of other ≡ Submit.taken s.record_given (cond (reset (protocol c)) order (with_command v order)) s.sense
    taken_too h = taken other accepted_too (λ z. h (sym same_protocol ∙ z)) ∙ rw made_is

    of_reset_is : (protocol c ≡ 15 → ⊥) → reset (protocol c) ≡ true → outcome_of other ≡ outcome_of s
    of_reset_is h r = taken_too h ∙ rw r (sym (taken s e h))

    of_report : protocol c ≡ 15 → outcome_of other ≡ outcome_of s
    of_report h =
        outcome_is other accepted_too ∙ rw (same_protocol, eq-eqb (protocol c) 15 h) (sym (outcome_is s e ∙ rw (eq-eqb (protocol c) 15 h)))

    of_command_is : (protocol c ≡ 15 → ⊥) → reset (protocol c) ≡ false → outcome_of other ≡ differs_in_command v (outcome_of s)
    of_command_is h r = taken_too h ∙ rw (r, taken s e h) (into s.record_given v order s.sense)

pub outcomes_differ_in_the_command : OutcomesDifferInTheCommand
outcomes_differ_in_the_command =
    record {
      of_an_order = of_command_is;
      of_any_other = λ s v w. by s v w (eqb (number_of s) 0) (eqb (protocol s.command) 15) refl refl;
    }
  where
    by : (s : Submission) (v : ℕ) → Refused (number_of s) ⊎ (protocol s.command ≡ 15) ⊎ (reset (protocol s.command) ≡ true) → (a b : Bool) → eqb (number_of s) 0 ≡ a → eqb (protocol s.command) 15 ≡ b → outcome_of (with_ata_command v s) ≡ outcome_of s
    by s v w false b e f = refused_alike s v (eqb-false _ _ e)
    by s v w true true e f = of_report s v (eqb-true _ _ e) (eqb-true _ _ f)
    by s v w true false e f =
        let z = eqb-true _ _ e in
        let h = eqb-false _ _ f in
        ⊎_elim (λ r. absurd (r z)) (⊎_elim (λ p. absurd (h p)) (of_reset_is s v z h)) w
