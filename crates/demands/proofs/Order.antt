-- Orders (demand 2): what comes of a submission, that the direction is never guessed, and that no order is faked.
use mathlib.Core.Path.{◌≡◌, refl, sym, ap, subst, ◌∙◌}
use mathlib.Core.Bool.{Bool, true, false, cond, not, ◌&&◌}
use mathlib.Core.List.{List}
use Prim.Native.Nat.{ℕ, ◌≤◌}
use lib.Dec.{eqb}
use lib.ListN.{length}
use borrow.Author.Tests.{eqb-true, eq-eqb, ne_eqb, le-ltb}
use Rattle.rules.specs.Bits.{flag}
use Rattle.passthrough_fields.specs.Fields.{protocol, t_dir, ck_cond, extend}
use Rattle.passthrough_length.specs.Length.{block_size, length_of}
use Rattle.passthrough_order.specs.declared.Order.{Order}
use Rattle.passthrough_order.specs.Order.{reset, reset_order, command_order, direction_of, order_of}
use Rattle.passthrough.specs.declared.Pending.{Pending}
use Rattle.passthrough.specs.Record.{nothing_pending}
use Rattle.passthrough.specs.Submit as Submit
use Rattle.passthrough.specs.Submit.{is_later, made, submit}
use Rattle.passthrough_end.specs.End.{is_set}
use Rattle.passthrough.specs.Complete as Complete
use Rattle.passthrough.specs.Complete.{complete}
use Rattle.passthrough.proofs.Over.{taken_over}
use Rattle.demands.specs.Promises.{Refused, Submission, outcome_of, number_of, order_from, DirectionFromTheFields, OwnFlags, OwnFlagsWhenTaken, EndsBy, CompletedWithItsOwnFields}
use Rattle.demands.proofs.Refusals.{not_refused, of_submit}

-- What a function makes of one of two is one of the two that it makes.
either : {A B : Type 0} (f : A → B) (b : Bool) (x y : A) → cond b (f x) (f y) ≡ f (cond b x y)
either f true x y = refl
either f false x y = refl

-- What decides the direction: a reset has none.
direction_is : (c : List ℕ) (bytes : ℕ) → (order_of c bytes).direction ≡ cond (reset (protocol c)) 0 (direction_of (protocol c) (t_dir c))
unfolding order_of
direction_is c bytes = sym (either (λ (o : Order). o.direction) (reset (protocol c)) _ _)

-- Completing a record that an order was taken into goes by that order, by itself or, a reset, over another.
ends_by : (free : Bool) (p : Pending) (c : List ℕ) (bytes : ℕ) (left : List ℕ) (form : ℕ) (room sense : List ℕ) → nothing_pending p ≡ free → (free ≡ false → reset (protocol c) ≡ true) → length left ≡ 11 → 22 ≤ length room → EndsBy p left form room (Submit.taken p (order_of c bytes) sense)
unfolding complete Complete.refusal_of
ends_by true p c bytes left form room sense n o l r = rw (n, eq-eqb _ _ l, le-ltb _ _ r)
ends_by false p c bytes left form room sense n o l r = rw (n, eq-eqb _ _ l, le-ltb _ _ r)

-- A command that was not refused is answered, or its order is taken.
module _ (s : Submission) where
  abbrev pub refusal : ℕ
  refusal = Submit.refusal_of s.record_given s.command s.registers s.block s.declared s.edition (length s.sense)

  abbrev pub accepted : Bool → Submit.Outcome
  accepted told = cond told (Submit.reported s.record_given s.registers s.form s.sense) (Submit.taken s.record_given (made s.command s.block s.declared s.edition) s.sense)

  abbrev pub refused : ℕ → Submit.Outcome
  refused number = Submit.refused s.record_given s.form number s.sense

  pub zero : number_of s ≡ 0 → refusal ≡ 0
  unfolding submit
  zero e = not_refused (λ (o : Submit.Outcome). o.submitted.taken.number) refused (accepted (eqb (protocol s.command) 15)) refusal refl e

  pub outcome_is : number_of s ≡ 0 → outcome_of s ≡ accepted (eqb (protocol s.command) 15)
  unfolding submit
  outcome_is e = rw (eq-eqb refusal 0 (zero e))

  pub taken : number_of s ≡ 0 → (protocol s.command ≡ 15 → ⊥) → outcome_of s ≡ Submit.taken s.record_given (made s.command s.block s.declared s.edition) s.sense
  taken e h = outcome_is e ∙ rw (ne_eqb (protocol s.command) 15 h)

  -- The number that comes back is the refusal's.
  pub number_is : number_of s ≡ refusal
  unfolding submit
  number_is = by (eqb refusal 0) refl
    where
      of_accepted : (told : Bool) → (accepted told).submitted.taken.number ≡ 0
      of_accepted true = refl
      of_accepted false = refl

      by : (t : Bool) → eqb refusal 0 ≡ t → (cond t (accepted (eqb (protocol s.command) 15)) (refused refusal)).submitted.taken.number ≡ refusal
      by true e = of_accepted (eqb (protocol s.command) 15) ∙ sym (eqb-true _ _ e)
      by false e = refl

  -- And a number that is not 0 comes with what a refusal by it comes with.
  pub refused_is : Refused (number_of s) → outcome_of s ≡ refused (number_of s)
  refused_is = of_submit s.record_given s.command s.registers s.block s.declared s.edition s.form s.sense

  direction_of_is : number_of s ≡ 0 → (order_from s).direction ≡ cond (eqb (protocol s.command) 15) 0 (cond (reset (protocol s.command)) 0 (direction_of (protocol s.command) (t_dir s.command)))
  direction_of_is e = ap (λ (o : Submit.Outcome). o.submitted.taken.order.direction) (outcome_is e) ∙ by (eqb (protocol s.command) 15)
    where
      by : (told : Bool) → (accepted told).submitted.taken.order.direction ≡ cond told 0 (cond (reset (protocol s.command)) 0 (direction_of (protocol s.command) (t_dir s.command)))
      by true = refl
      by false = direction_is s.command _

pub direction_from_the_fields : DirectionFromTheFields
direction_from_the_fields s t es et p d = rw (direction_of_is s es, direction_of_is t et, p, d)

pub completed_with_its_own_fields : CompletedWithItsOwnFields
completed_with_its_own_fields s e h left form room l r =
    let w = taken s e h in
    let over : nothing_pending s.record_given ≡ false → reset (protocol s.command) ≡ true = λ n. (taken_over s.record_given s.command s.registers s.block s.declared s.edition (length s.sense) (zero s e) (ne_eqb _ _ h) n).0 in
    (ap (λ (o : Submit.Outcome). o.submitted.taken.order) w, subst (EndsBy s.record_given left form room) (sym w) (ends_by (nothing_pending s.record_given) s.record_given s.command _ left form room s.sense refl over l r))

-- The order that was taken, as its command makes it.
pub order_is : (s : Submission) → number_of s ≡ 0 → (protocol s.command ≡ 15 → ⊥) → order_from s ≡ made s.command s.block s.declared s.edition
order_is s e h = ap (λ (o : Submit.Outcome). o.submitted.taken.order) (taken s e h)

pub own_flags_when_taken : OwnFlagsWhenTaken
unfolding order_of
own_flags_when_taken s e h = rw (order_is s e h) (by (reset (protocol s.command)))
  where
    bytes : ℕ
    bytes = length_of (block_size (is_later s.edition) s.block s.command) s.command s.declared

    by : (b : Bool) → let o = cond b (reset_order s.command) (command_order s.command bytes) in (o.ck_cond ≡ flag (not b && ck_cond s.command)) × (o.extend ≡ flag (not b && extend s.command))
    by true = (refl, refl)
    by false = (refl, refl)

-- A flag that was put into an order comes out of it.
flag_is_set : (b : Bool) → is_set (flag b) ≡ b
flag_is_set true = refl
flag_is_set false = refl

pub own_flags : OwnFlags
unfolding order_of
own_flags c block declared edition r = rw r (flag_is_set (ck_cond c), flag_is_set (extend c))
