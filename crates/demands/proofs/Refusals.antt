-- Demand 1 of refusals: an entry's outcome is what was accepted, which carries 0, or what its refusal's number alone decides.
use mathlib.Core.Path.{◌≡◌, refl, sym, ap, ◌∙◌}
use mathlib.Core.Bool.{Bool, true, false, cond, ◌&&◌, not}
use mathlib.Core.List.{List, [], ◌∷◌, ◌++◌}
use Prim.Native.Nat.{ℕ}
use native.Mathlib.Omega.{arith}
use lib.Dec.{eqb, ltb}
use lib.ListN.{length, take, drop, replicate}
use borrow.Author.Tests.{eq-eqb, eqb-true}
use Rattle.rules.specs.First.{◌when◌, first}
use Rattle.port.specs.declared.Ports.{Ports}
use Rattle.page83.specs.Page83 as Page83
use Rattle.page83.specs.Page83.{write}
use Rattle.page83_reader.specs.declared.Name.{Name}
use Rattle.page83_reader.specs.Reader as Reader
use Rattle.page83_reader.specs.Reader.{headed, names_drive, tells_texts, tells_ports, in_sixty, told, read}
use Rattle.inquiry_asked.specs.Request.{Request, request, is_packet, passes_through}
use Rattle.inquiry_checks.specs.Checks as InquiryChecks
use Rattle.inquiry.specs.Inquiry as Inquiry
use Rattle.inquiry.specs.Inquiry.{inquiry}
use Rattle.passthrough_fields.specs.Fields.{protocol}
use Rattle.passthrough_order.specs.Order.{order_of}
use Rattle.passthrough.specs.declared.Pending.{Pending}
use Rattle.passthrough.specs.Submit as Submit
use Rattle.passthrough.specs.Submit.{submit}
use Rattle.passthrough.specs.Complete as Complete
use Rattle.passthrough.specs.Complete.{complete}
use Rattle.roll.specs.Roll as Roll
use Rattle.roll.specs.Roll.{roll}
use Rattle.intake.specs.declared.Intake.{Intake}
use Rattle.intake.specs.Intake as Intake
use Rattle.intake.specs.Intake.{taken, wrong_intake, block_of, used_by}
use Rattle.gathering.specs.Gathering as Gathering
use Rattle.gathering.specs.Gathering.{gather_of, gathered}
use Rattle.received.specs.Received as Received
use Rattle.received.specs.Received.{inquiry_of, roll_of}
use Rattle.capture.specs.Capture.{fields_of, information, holds, end}
use Rattle.checker.specs.declared.Checked.{Checked}
use Rattle.checker.specs.Check as Check
use Rattle.checker.specs.Check.{judged, check}
use Rattle.checker.proofs.Judging.{judged_zero}
use Rattle.tally.specs.declared.Census.{Census}
use Rattle.tally.specs.declared.Fed.{Fed}
use Rattle.tally.specs.Census as Census
use Rattle.tally.specs.Census.{feed}
use Rattle.passthrough_order.specs.declared.Order.{Order}
use Rattle.buildable.specs.Buildable.{buildable}
use Rattle.builder.specs.Builder.{short, long, built, build}
use Rattle.demands.specs.Promises.{Refused, RefusalsChangeNothing}

-- An outcome that is `accepted`, which carries 0, or that of a refusal. One that carries a number is that number's.
module _ {O : Type 0} (number : O → ℕ) (refused : ℕ → O) (accepted : O) (refusal : ℕ) where
  pub by_number : (t : Bool) → number accepted ≡ 0 → number (refused refusal) ≡ refusal → Refused (number (cond t accepted (refused refusal))) → cond t accepted (refused refusal) ≡ refused (number (cond t accepted (refused refusal)))
  by_number true z n h = absurd (h z)
  by_number false z n h = ap refused (sym n)

  -- And one that carries 0 was not refused.
  pub not_refused : number (refused refusal) ≡ refusal → number (cond (eqb refusal 0) accepted (refused refusal)) ≡ 0 → refusal ≡ 0
  not_refused n e = by (eqb refusal 0) refl e
    where
      by : (t : Bool) → eqb refusal 0 ≡ t → number (cond t accepted (refused refusal)) ≡ 0 → refusal ≡ 0
      by true h z = eqb-true refusal 0 h
      by false h z = sym n ∙ z

-- Of two that carry 0 either does.
either_zero : {O : Type 0} (number : O → ℕ) (a b : O) (t : Bool) → number a ≡ 0 → number b ≡ 0 → number (cond t a b) ≡ 0
either_zero number a b true p q = p
either_zero number a b false p q = q

abbrev inquiry_number : Inquiry.Outcome → ℕ
inquiry_number o = o.answer.number

of_inquiry : (q : Request) (form : ℕ) (room sense : List ℕ) → Refused (inquiry q form room sense).answer.number → inquiry q form room sense ≡ Inquiry.refused form (inquiry q form room sense).answer.number room sense
unfolding inquiry
of_inquiry q form room sense h =
    let r = InquiryChecks.refusal_of q (length room) (length sense) in
    by_number inquiry_number (λ n. Inquiry.refused form n room sense) _ r (eqb r 0)
    (either_zero inquiry_number (Inquiry.passed q room sense) (Inquiry.served q room sense) (passes_through (is_packet q) q.command) refl refl) refl h

abbrev submit_number : Submit.Outcome → ℕ
submit_number o = o.submitted.taken.number

pub of_submit : (p : Pending) (command registers block : List ℕ) (declared edition form : ℕ) (sense : List ℕ) → Refused (submit p command registers block declared edition form sense).submitted.taken.number → submit p command registers block declared edition form sense ≡ Submit.refused p form (submit p command registers block declared edition form sense).submitted.taken.number sense
unfolding submit
of_submit p command registers block declared edition form sense h =
    let r = Submit.refusal_of p command registers block declared edition (length sense) in
    by_number submit_number (λ n. Submit.refused p form n sense) _ r (eqb r 0)
    (either_zero submit_number (Submit.reported p registers form sense) (Submit.taken p (Submit.made command block declared edition) sense) (eqb (protocol command) 15) refl refl) refl h

of_complete : (p : Pending) (registers : List ℕ) (form : ℕ) (sense : List ℕ) → Refused (complete p registers form sense).completed.ended.number → complete p registers form sense ≡ Complete.refused p form (complete p registers form sense).completed.ended.number sense
unfolding complete
of_complete p registers form sense h =
    let r = Complete.refusal_of p registers (length sense) in
    by_number (λ (o : Complete.Outcome). o.completed.ended.number) (λ n. Complete.refused p form n sense) _ r (eqb r 0) refl refl h

of_write : (block : List ℕ) (ports : Ports) (address room : List ℕ) → Refused (write block ports address room).written.number → write block ports address room ≡ Page83.outcome (record { number = (write block ports address room).written.number; count = 0 }) room
unfolding write
of_write block ports address room h =
    let r = Page83.refusal_of block ports address (length room) in
    by_number (λ (o : Page83.Outcome). o.written.number) (λ n. Page83.outcome (record { number = n; count = 0 }) room) _ r (eqb r 0) refl refl h

-- What the reader tells is accepted, or refused as every refused page is.
told_or_refused : (form : ℕ) (name behind : List ℕ) → Refused (told form name behind).number → told form name behind ≡ Reader.refused
unfolding told
told_or_refused form name behind h = by (tells_ports behind) refl
  where
    by : (t : Bool) → tells_ports behind ≡ t → told form name behind ≡ Reader.refused
    by true e = absurd (h (rw e))
    by false e = rw e

of_read : (page : List ℕ) → Refused (read page).number → read page ≡ Reader.refused
unfolding read
of_read page h = by (headed page && names_drive page) (headed page && tells_texts page) h
  where
    either : Bool → Bool → Name
    either p q = cond p (told 1 (in_sixty (take 8 (drop 8 page))) (drop 16 page)) (cond q (told 2 (in_sixty (take 60 (drop 16 page))) (drop 76 page)) Reader.refused)

    by : (p q : Bool) → Refused (either p q).number → either p q ≡ Reader.refused
    by true q h = told_or_refused 1 (in_sixty (take 8 (drop 8 page))) (drop 16 page) h
    by false true h = told_or_refused 2 (in_sixty (take 60 (drop 16 page))) (drop 76 page) h
    by false false h = refl

of_roll : (bytes room : List ℕ) → Refused (roll bytes room).counted.number → roll bytes room ≡ Roll.outcome (record { number = (roll bytes room).counted.number; blocks = 0; drives = 0 }) room
unfolding roll
of_roll bytes room h =
    let r = Roll.refusal_of bytes (length room) in
    by_number (λ (o : Roll.Outcome). o.counted.number) (λ n. Roll.outcome (record { number = n; blocks = 0; drives = 0 }) room) _ r (eqb r 0) refl refl h

of_take : (held : Intake) (store run : List ℕ) → Refused (taken held store run).took.number → taken held store run ≡ Intake.outcome (Intake.answer held 0 (taken held store run).took.number 0) store
unfolding taken
of_take held store run h = by (wrong_intake held.have (length store)) h
  where
    either : Bool → Intake.Outcome
    either t = cond t (Intake.outcome (Intake.answer held 0 1 0) store) (Intake.used held store (used_by held.have run))

    by : (t : Bool) → Refused (either t).took.number → either t ≡ Intake.outcome (Intake.answer held 0 (either t).took.number 0) store
    by true h = refl
    by false h = absurd (h refl)

of_gather : (haves stores room : List ℕ) → Refused (gather_of haves stores room).gathered.number → gather_of haves stores room ≡ Gathering.gather_outcome (Gathering.given (gather_of haves stores room).gathered.number 0) room
unfolding gather_of
of_gather haves stores room h =
    let r = Gathering.gather_refusal haves stores (length room) in
    by_number (λ (o : Gathering.GatherOutcome). o.gathered.number) (λ n. Gathering.gather_outcome (Gathering.given n 0) room) _ r (eqb r 0) refl refl h

of_inquiry_from_intake : (have : ℕ) (store command signature texts reply : List ℕ) (ports : Ports) (address : List ℕ) (form : ℕ) (room sense : List ℕ) → Refused (inquiry_of have store command signature texts reply ports address form room sense).answer.number → inquiry_of have store command signature texts reply ports address form room sense ≡ Inquiry.refused form (inquiry_of have store command signature texts reply ports address form room sense).answer.number room sense
unfolding inquiry_of
of_inquiry_from_intake have store command signature texts reply ports address form room sense h = by (wrong_intake have (length store)) h
  where
    q : Request
    q = request command (block_of have store) signature texts reply ports address

    by : (t : Bool) → Refused (cond t (Inquiry.refused form 1 room sense) (inquiry q form room sense)).answer.number → cond t (Inquiry.refused form 1 room sense) (inquiry q form room sense) ≡ Inquiry.refused form (cond t (Inquiry.refused form 1 room sense) (inquiry q form room sense)).answer.number room sense
    by true h = refl
    by false h = of_inquiry q form room sense h

-- The roll of intakes, where it is not refused, is a roll that is not.
not_by_roll : (wrong short : Bool) (number : ℕ) → first ((1 when wrong) ∷ (number when not (eqb number 0)) ∷ (8 when short) ∷ []) ≡ 0 → number ≡ 0
not_by_roll true short number e = absurd (omega (arith, e))
not_by_roll false short number e = by (eqb number 0) refl e
  where
    by : (t : Bool) → eqb number 0 ≡ t → cond (not t) number (cond short 8 0) ≡ 0 → number ≡ 0
    by true h e = eqb-true number 0 h
    by false h e = e

rolled_zero : (haves stores room rows : List ℕ) → Received.refusal_of haves stores (length room) (length rows) ≡ 0 → (Received.rolled (gathered haves stores) room rows).counted.number ≡ 0
unfolding Received.refusal_of roll
rolled_zero haves stores room rows e =
    rw (eq-eqb (Roll.refusal_of (gathered haves stores) (length rows)) 0 (not_by_roll (Gathering.wrong_run haves (length stores)) (ltb (length room) (length (gathered haves stores))) (Roll.refusal_of (gathered haves stores) (length rows)) e))

of_roll_of_intakes : (haves stores room rows : List ℕ) → Refused (roll_of haves stores room rows).counted.number → roll_of haves stores room rows ≡ Received.outcome (record { number = (roll_of haves stores room rows).counted.number; blocks = 0; drives = 0 }) room rows
unfolding roll_of
of_roll_of_intakes haves stores room rows h = by (eqb refusal 0) refl h
  where
    refusal : ℕ
    refusal = Received.refusal_of haves stores (length room) (length rows)

    refused : ℕ → Received.Outcome
    refused n = Received.outcome (record { number = n; blocks = 0; drives = 0 }) room rows

    either : Bool → Received.Outcome
    either t = cond t (Received.rolled (gathered haves stores) room rows) (refused refusal)

    by : (t : Bool) → eqb refusal 0 ≡ t → Refused (either t).counted.number → either t ≡ refused (either t).counted.number
    by true e h = absurd (h (rolled_zero haves stores room rows (eqb-true refusal 0 e)))
    by false e h = refl

of_feed : (c : Census) (block : List ℕ) → Refused (feed c block).number → feed c block ≡ Census.answer c (feed c block).number
unfolding feed
of_feed c block h =
    let r = Census.refusal_of c block in
    by_number (λ (o : Fed). o.number) (λ n. Census.answer c n) _ r (eqb r 0) refl refl h

of_build : (o : Order) → Refused (build o).number → build o ≡ built 23 0 (replicate 16 0x00)
unfolding build
of_build o h = by (buildable o) (eqb o.extend 0) h
  where
    by : (b x : Bool) → Refused (cond b (cond x (built 0 12 (short o ++ replicate 4 0x00)) (built 0 16 (long o))) (built 23 0 (replicate 16 0x00))).number → cond b (cond x (built 0 12 (short o ++ replicate 4 0x00)) (built 0 16 (long o))) (built 23 0 (replicate 16 0x00)) ≡ built 23 0 (replicate 16 0x00)
    by true true h = absurd (h refl)
    by true false h = absurd (h refl)
    by false x h = refl

of_check : (capture : List ℕ) → Refused (check capture).number → check capture ≡ Check.refused (check capture).number (check capture).place
unfolding check
of_check capture h = by (eqb (Check.refusal_of capture) 0) h
  where
    either : Bool → Checked
    either t = cond t (judged (information capture) (fields_of capture)) (Check.refused (Check.refusal_of capture) (cond (holds capture) 0 (end capture)))

    by : (t : Bool) → Refused (either t).number → either t ≡ Check.refused (either t).number (either t).place
    by true h = absurd (h (judged_zero (information capture) (fields_of capture)))
    by false h = refl

pub refusals_change_nothing : RefusalsChangeNothing
refusals_change_nothing =
    record {
      of_inquiry = of_inquiry;
      of_submit = of_submit;
      of_complete = of_complete;
      of_write = of_write;
      of_read = of_read;
      of_roll = of_roll;
      of_take = of_take;
      of_gather = of_gather;
      of_inquiry_from_intake = of_inquiry_from_intake;
      of_roll_of_intakes = of_roll_of_intakes;
      of_feed = of_feed;
      of_build = of_build;
      of_check = of_check;
    }
