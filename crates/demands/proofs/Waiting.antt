-- What is taken while something is pending (demand 2 and L9): a reset over an order that is none; all else has to wait, but protocol 15.
use mathlib.Core.Path.{◌≡◌, refl, sym, ap, ◌∙◌}
use mathlib.Core.Bool.{Bool, true, false, cond, not, ◌||◌, and-false, true≢false}
use mathlib.Core.Logic.{⊎_elim}
use mathlib.Core.List.{List, [], ◌∷◌, ◌++◌}
use Prim.Native.Nat.{ℕ}
use lib.Dec.{eqb}
use lib.ListN.{length}
use borrow.Author.Tests.{eqb-true, eqb-false, eq-eqb, ne_eqb, not-true}
use Rattle.rules.specs.First.{Check, ◌when◌, first}
use Rattle.rules.proofs.First.{first_answers, second_answers}
use Rattle.refusals.specs.Refusal.{row_of, refused_sense}
use Rattle.passthrough_fields.specs.Fields.{protocol, t_length, t_dir}
use Rattle.passthrough_length.specs.Length.{block_size, lacking, length_of}
use Rattle.passthrough_order.specs.Order.{reset}
use Rattle.passthrough_checks.specs.Checks as Checks
use Rattle.passthrough_checks.specs.Helpers.{block_checks, form_checks, length_checks}
use Rattle.buildable.proofs.Laws.{one_of}
use Rattle.passthrough.specs.Record.{nothing_pending, reset_pending}
use Rattle.passthrough.specs.Submit as Submit
use Rattle.passthrough.specs.Submit.{is_later, submit}
use Rattle.demands.specs.Promises.{Refused, Submission, number_of, with_nothing_pending, before_busy, AnsweredBusy, HasToWait, TakenWhilePending, AnsweredWhilePending, Protocol15KeepsTheRecord, Protocol15OnlyReports}
use Rattle.demands.proofs.Runs.{first_of_kind}
use Rattle.demands.proofs.Order.{refusal, accepted, refused, outcome_is, number_is, refused_is}

-- The checks before 10, and those behind it.
module _ (s : Submission) where
  abbrev before : List Check
  before =
      (1 when Checks.wrong_size (length s.registers) (length s.sense))
      ∷ (block_checks (is_later s.edition) s.block
      ++ ((2 when eqb (length s.command) 0)
      ∷ (form_checks (is_later s.edition) s.command
      ++ ((9 when Checks.wrong_protocol (protocol s.command)) ∷ []))))

  abbrev behind : List Check
  behind =
      (11 when Checks.wrong_length (protocol s.command) (t_length s.command))
      ∷ (12 when Checks.wrong_direction (protocol s.command) (t_dir s.command))
      ∷ length_checks (protocol s.command) (lacking (is_later s.edition) s.block s.command) (length_of (block_size (is_later s.edition) s.block s.command) s.command s.declared) s.declared

  abbrev waiting : Bool
  waiting = Checks.waits (not (nothing_pending s.record_given)) (reset_pending s.record_given) (protocol s.command)

  -- A check before 10 answers whatever is pending;
  by_before : Refused (first before) → refusal s ≡ first before
  unfolding Checks.refusal_of
  by_before = first_answers before ((10 when waiting) ∷ behind) refl

  -- else 10 does where the submission waits, and else the checks behind it.
  by_ten : first before ≡ 0 → refusal s ≡ cond waiting 10 (first behind)
  unfolding Checks.refusal_of
  by_ten = second_answers before ((10 when waiting) ∷ behind) refl

  kind_before : eqb (first before) 0 ≡ false → before_busy (first before) ≡ true
  kind_before e = rw e at (first_of_kind (λ n. eqb n 0 || before_busy n) refl before refl)

  kind_behind : before_busy (first behind) ≡ false
  kind_behind = not-true _ (first_of_kind (λ n. not (before_busy n)) refl behind refl)

-- With nothing pending nothing waits.
pub none_waits : (p : ℕ) → Checks.waits false false p ≡ false
none_waits p = by (reset p)
  where
    by : (b : Bool) → cond b false false ≡ false
    by true = refl
    by false = refl

-- So there the checks behind 10 answer, as they are, where none before it does.
alone_is : (s : Submission) → first (before s) ≡ 0 → refusal (with_nothing_pending s) ≡ first (behind s)
alone_is s h = by_ten (with_nothing_pending s) h ∙ rw none_waits

-- A submission that waits: what comes of it, by what the checks before 10 say.
module _ (s : Submission) (w : waiting s ≡ true) where
  abbrev alone : Submission
  alone = with_nothing_pending s

  refused_before : eqb (first (before s)) 0 ≡ false → (number_of s ≡ first (before s)) × (number_of alone ≡ first (before s))
  refused_before e =
      let h = eqb-false _ _ e in
      (number_is s ∙ by_before s h, number_is alone ∙ by_before alone h)

  past_before : eqb (first (before s)) 0 ≡ true → (number_of s ≡ 10) × (number_of alone ≡ first (behind s))
  past_before e =
      let h = eqb-true _ _ e in
      (number_is s ∙ by_ten s h ∙ rw w, number_is alone ∙ alone_is s h)

  -- Number 10 tells no sense data, and its status is BUSY.
  answered_busy : number_of s ≡ 10 → AnsweredBusy s
  unfolding row_of refused_sense
  answered_busy e = refused_is s (λ z. eqb-false 10 0 refl (sym e ∙ z)) ∙ rw e

  has_to_wait : HasToWait s
  has_to_wait = by (eqb (first (before s)) 0) refl
    where
      by : (b : Bool) → eqb (first (before s)) 0 ≡ b → HasToWait s
      by true e =
          let n = past_before e in
          record {
            not_taken = λ z. eqb-false 10 0 refl (sym n.0 ∙ z);
            checked_before = λ h. absurd (true≢false (sym h ∙ ap before_busy n.1 ∙ kind_behind s));
            else_busy = λ h. answered_busy n.0;
          }
      by false e =
          let n = refused_before e in
          record {
            not_taken = λ z. eqb-false _ _ e (sym n.0 ∙ z);
            checked_before = λ h. n.0 ∙ sym n.1;
            else_busy = λ h. absurd (true≢false (sym (kind_before s e) ∙ ap before_busy (sym n.1) ∙ h));
          }

  -- A reset that no check before 10 refuses is refused by none behind it.
  as_alone : first (behind s) ≡ 0 → Refused (number_of alone) → number_of s ≡ number_of alone
  as_alone q h = by (eqb (first (before s)) 0) refl
    where
      by : (b : Bool) → eqb (first (before s)) 0 ≡ b → number_of s ≡ number_of alone
      by true e = absurd (h ((past_before e).1 ∙ q))
      by false e = let n = refused_before e in n.0 ∙ sym n.1

-- Of a reset the checks behind 10 look at nothing.
reset_unread : (s : Submission) → reset (protocol s.command) ≡ true → first (behind s) ≡ 0
reset_unread s r =
    ⊎_elim (λ t. rw (eqb-true (protocol s.command) 0 t)) (λ t. rw (eqb-true (protocol s.command) 1 t)) (one_of (eqb (protocol s.command) 0) (eqb (protocol s.command) 1) r)

no_other : (s : Submission) → nothing_pending s.record_given ≡ false → (protocol s.command ≡ 15 → ⊥) → reset (protocol s.command) ≡ false → HasToWait s
no_other s n h r = has_to_wait s (rw (r, n, ne_eqb _ _ h))

-- What does not wait is refused as with nothing pending, and never with 10.
module _ (s : Submission) (w : waiting s ≡ false) where
  abbrev without : Submission
  without = with_nothing_pending s

  as_with_nothing : refusal s ≡ refusal without
  as_with_nothing = by (eqb (first (before s)) 0) refl
    where
      by : (b : Bool) → eqb (first (before s)) 0 ≡ b → refusal s ≡ refusal without
      by true e = let h = eqb-true _ _ e in by_ten s h ∙ rw w (sym (alone_is s h))
      by false e = let h = eqb-false _ _ e in by_before s h ∙ sym (by_before without h)

  not_busy : number_of s ≡ 10 → ⊥
  not_busy t = eqb-false (refusal s) 10 (by (eqb (first (before s)) 0) refl) (sym (number_is s) ∙ t)
    where
      by : (b : Bool) → eqb (first (before s)) 0 ≡ b → eqb (refusal s) 10 ≡ false
      by true e = rw (by_ten s (eqb-true _ _ e), w) (not-true _ (first_of_kind (λ n. not (eqb n 10)) refl (behind s) refl))
      by false e = rw (by_before s (eqb-false _ _ e)) (not-true _ (first_of_kind (λ n. not (eqb n 10)) refl (before s) refl))

module _ (s : Submission) (r : reset (protocol s.command) ≡ true) where
  second : reset_pending s.record_given ≡ true → waiting s ≡ true
  second p = rw (r, p)

  past : reset_pending s.record_given ≡ false → waiting s ≡ false
  past p = rw (r, p)

pub answered_while_pending : AnsweredWhilePending
answered_while_pending =
    record {
      no_other = no_other;
      no_second_reset = λ s p r. has_to_wait s (second s r p);
      second_reset_busy = λ s p r e. (has_to_wait s (second s r p)).else_busy (rw e);
      second_reset_else = λ s p r. as_alone s (second s r p) (reset_unread s r);
      reset_gets_past = λ s p r. (
        number_is s ∙ as_with_nothing s (past s r p) ∙ sym (number_is (with_nothing_pending s)),
        not_busy s (past s r p),
      );
    }

-- Protocol 15 waits for nothing.
pub protocol_15_only_reports : Protocol15OnlyReports
unfolding submit
protocol_15_only_reports s h =
    let f = eq-eqb (protocol s.command) 15 h in
    let w : waiting s ≡ false = rw h (and-false (not (nothing_pending s.record_given))) in
    record {
      record_kept = rw f (kept (eqb (refusal s) 0));
      same_answer = rw (as_with_nothing s w, f) (answer (eqb (refusal (with_nothing_pending s)) 0));
      same_sense = rw (as_with_nothing s w, f) (sense (eqb (refusal (with_nothing_pending s)) 0));
      tells_registers = λ e. outcome_is s e ∙ rw f;
    }
  where
    either : Submission → Bool → ℕ → Submit.Outcome
    either q b n = cond b (accepted q true) (refused q n)

    kept : (b : Bool) → (either s b (refusal s)).submitted.next ≡ s.record_given
    kept true = refl
    kept false = refl

    answer : (b : Bool) → (either s b (refusal (with_nothing_pending s))).submitted.taken ≡ (either (with_nothing_pending s) b (refusal (with_nothing_pending s))).submitted.taken
    answer true = refl
    answer false = refl

    sense : (b : Bool) → (either s b (refusal (with_nothing_pending s))).sense ≡ (either (with_nothing_pending s) b (refusal (with_nothing_pending s))).sense
    sense true = refl
    sense false = refl

-- What is taken follows from what is answered, and what keeps the record from what reports.
pub taken_while_pending : TakenWhilePending
taken_while_pending =
    record {
      no_other = λ s n h r. (answered_while_pending.no_other s n h r).not_taken;
      no_second_reset = λ s p r. (answered_while_pending.no_second_reset s p r).not_taken;
      reset_gets_past = answered_while_pending.reset_gets_past;
    }

pub protocol_15_keeps_the_record : Protocol15KeepsTheRecord
protocol_15_keeps_the_record s h = (protocol_15_only_reports s h).record_kept
