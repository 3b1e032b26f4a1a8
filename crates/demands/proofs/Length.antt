-- The length of an order's data, and what the checks of the length say of it.
use mathlib.Core.Path.{◌≡◌, refl, sym, ap, ◌∙◌}
use mathlib.Core.Bool.{Bool, true, false, cond, not, true≢false}
use mathlib.Core.List.{List, [], ◌∷◌}
use Prim.Native.Nat.{ℕ, ◌<◌}
use native.Mathlib.Nat.{pos_of_ne-zero}
use native.Mathlib.Omega.{arith}
use lib.Dec.{eqb, ltb}
use lib.ListN.{length}
use borrow.Author.Tests.{eqb-true, eqb-false, ltb-true, ne_eqb, lt-ltb, le-ltb, not-false}
use Rattle.passthrough_fields.specs.Fields.{t_length, protocol}
use Rattle.passthrough_length.specs.Length.{length_of}
use Rattle.passthrough_order.specs.Order.{with_data, reset, order_of}
use Rattle.passthrough_checks.proofs.Laws.{data_by_length}
use Rattle.passthrough.specs.Record.{nothing_pending, reset_pending}
use Rattle.passthrough.specs.Submit as Submit
use Rattle.passthrough.specs.Submit.{is_later}
use Rattle.demands.specs.Promises.{Submission, number_of, order_from, OneOf, MovesData, Fits, counted_length, LengthByCount, LengthOfData}
use Rattle.demands.proofs.Order.{zero, number_is, outcome_is, order_is}
use Rattle.demands.proofs.Read.{early_zero}
use Rattle.demands.proofs.Counted.{counter_fits, rule_length, rule_counts, asked_count}
use Rattle.demands.proofs.Accepted.{fails, data_listed, fitting, fits_from, submit_accepts}
use Rattle.demands.proofs.Counts.{reset_without}

-- The checks of the length, where there are data: 13 for none, 14 for too much, else none.
abbrev answered : ℕ → ℕ → ℕ
answered bytes declared = cond (eqb bytes 0) 13 (cond (ltb declared bytes) 14 0)

module _ (bytes declared : ℕ) where
  none_asked : answered bytes declared ≡ 13 → bytes ≡ 0
  none_asked e = by (eqb bytes 0) (ltb declared bytes) refl e
    where
      by : (a b : Bool) → eqb bytes 0 ≡ a → ◌≡◌ {A = ℕ} (cond a 13 (cond b 14 0)) 13 → bytes ≡ 0
      by true b t e = eqb-true bytes 0 t
      by false true t e = absurd (omega (arith, e))
      by false false t e = absurd (omega (arith, e))

  too_much : answered bytes declared ≡ 14 → declared < bytes
  too_much e = by (eqb bytes 0) (ltb declared bytes) refl e
    where
      by : (a b : Bool) → ltb declared bytes ≡ b → ◌≡◌ {A = ℕ} (cond a 13 (cond b 14 0)) 14 → declared < bytes
      by true b t e = absurd (omega (arith, e))
      by false true t e = ltb-true declared bytes t
      by false false t e = absurd (omega (arith, e))

-- The length of the order that is taken: of a command with data it is the one that was asked for.
module _ (s : Submission) (e : number_of s ≡ 0) where
  length_taken : with_data (protocol s.command) ≡ true → (order_from s).length ≡ rule_length s
  unfolding order_of
  length_taken d =
      let no_reset = fails (reset (protocol s.command)) (λ r. true≢false (sym d ∙ reset_without (protocol s.command) r)) in
      let no_report : protocol s.command ≡ 15 → ⊥ = λ f. true≢false (sym d ∙ rw f) in
      rw (order_is s e no_report, no_reset)

  -- Without data T_LENGTH points at none.
  none_asked_for : eqb (protocol s.command) 15 ≡ false → reset (protocol s.command) ≡ false → with_data (protocol s.command) ≡ false → rule_length s ≡ 0
  unfolding length_of
  none_asked_for f r d =
      let by = data_by_length (not (nothing_pending s.record_given)) (reset_pending s.record_given) (is_later s.edition) s.command (length s.registers) s.block (length s.sense) (early_zero s (zero s e)) f r in
      rw (not-false (eqb (t_length s.command) 0) (sym by ∙ d))

  length_none : with_data (protocol s.command) ≡ false → (order_from s).length ≡ 0
  unfolding order_of
  length_none d = by (eqb (protocol s.command) 15) (reset (protocol s.command)) refl refl
    where
      by : (a b : Bool) → eqb (protocol s.command) 15 ≡ a → reset (protocol s.command) ≡ b → (order_from s).length ≡ 0
      by true b f r = ap (λ (o : Submit.Outcome). o.submitted.taken.order.length) (outcome_is s e) ∙ rw f
      by false true f r = rw (order_is s e (eqb-false _ _ f), r)
      by false false f r = rw (order_is s e (eqb-false _ _ f), r) (none_asked_for f r d)

module _ (s : Submission) (d : MovesData s) where
  abbrev c : List ℕ
  c = s.command

  moves : with_data (protocol c) ≡ true
  moves = (data_listed (protocol c)).passes d

  -- Of a submission that fits the length decides.
  by_length : Fits s → number_of s ≡ answered (rule_length s) s.declared
  by_length f = number_is s ∙ fitting s f ∙ rw moves

  module _ (h : OneOf (t_length c) (1 ∷ 2 ∷ [])) where
    asked_is : rule_length s ≡ counted_length s
    asked_is = rule_counts s h

    by_count : LengthByCount s
    by_count =
        record {
          in_its_width = counter_fits c;
          exact = λ e. length_taken s e moves ∙ asked_is;
          thirteen = (
            λ e. let f = fits_from s (rw e) in (f, sym asked_is ∙ none_asked _ s.declared (sym (by_length f) ∙ e)),
            λ w. by_length w.0 ∙ rw (asked_is, w.1),
          );
          fourteen = (
            λ e. let f = fits_from s (rw e) in (f, rw asked_is at (too_much (rule_length s) s.declared (sym (by_length f) ∙ e))),
            λ w. by_length w.0 ∙ rw (asked_is, ne_eqb (counted_length s) 0 (λ z. omega (arith, w.1)), lt-ltb _ _ w.1),
          );
          accepted = (
            λ e.
                let a = (submit_accepts s).0 e in
                (a.fits, pos_of_ne-zero (rw (asked_count s h) at (a.some_length d)), rw (asked_count s h) at (a.within_declared d)),
            λ w. by_length w.0 ∙ rw (asked_is, ne_eqb (counted_length s) 0 (λ z. omega (arith, w.1)), le-ltb _ _ w.2),
          );
        }

  declared_is : number_of s ≡ 0 → t_length c ≡ 3 → (order_from s).length ≡ s.declared
  unfolding length_of
  declared_is e t = length_taken s e moves ∙ rw t

pub length_of_data : LengthOfData
length_of_data =
    record {
      by_count = by_count;
      as_declared = λ s e d. declared_is s d e;
      none = λ s e n. length_none s e (fails _ (λ d. n ((data_listed (protocol s.command)).words d)));
    }
