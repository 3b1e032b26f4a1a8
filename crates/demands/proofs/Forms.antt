-- The forms of sense data: one call in two of them differs in the sense bytes alone, and what these carry agrees.
use mathlib.Core.Path.{◌≡◌, refl, sym, ◌∙◌}
use mathlib.Core.Bool.{Bool, true, false, cond, not}
use mathlib.Core.List.{List}
use Prim.Native.Nat.{ℕ, ◌≤◌}
use native.Mathlib.Omega.{arith}
use lib.Dec.{eqb}
use lib.ListN.{length}
use borrow.Author.Tests.{eqb-true, eqb-false}
use Rattle.rules.proofs.First.{silent}
use Rattle.room.specs.Room.{written}
use Rattle.sense_fixed.specs.Fixed.{fixed_sense}
use Rattle.sense.specs.Sense.{Told, registers as showing, is_fixed, descriptor_sense, sense_data}
use Rattle.refusals.specs.Refusal.{row_of, refused_sense, good, busy, no_status, check_condition}
use Rattle.refusals.specs.Helpers.{Roomy}
use Rattle.refusals.proofs.Table.{roomy_unless}
use Rattle.refusals.proofs.Table.{checks, writes, writes_nothing, busy_or_none}
use Rattle.sense.proofs.Carried.{forms_agree, written_agree}
use Rattle.port.specs.declared.Ports.{Ports}
use Rattle.inquiry_asked.specs.Request.{Request, request, is_packet, passes_through}
use Rattle.inquiry_checks.specs.Checks as InquiryChecks
use Rattle.inquiry_checks.proofs.Laws as InquiryLaws
use Rattle.inquiry.specs.Inquiry as Inquiry
use Rattle.inquiry.specs.Inquiry.{inquiry}
use Rattle.passthrough_fields.specs.Fields.{protocol}
use Rattle.passthrough_checks.specs.Checks as Check
use Rattle.passthrough_checks.proofs.Laws as PassLaws
use Rattle.passthrough.specs.declared.Pending.{Pending}
use Rattle.passthrough.specs.Record.{empty, nothing_pending, reset_pending}
use Rattle.passthrough.specs.Submit as Submit
use Rattle.passthrough.specs.Submit.{submit}
use Rattle.passthrough.specs.Complete as Complete
use Rattle.passthrough_end.specs.End.{failed, is_set}
use Rattle.passthrough.specs.Complete.{complete, lost, lost_protocol}
use Rattle.intake.specs.Intake.{wrong_intake, block_of}
use Rattle.received.specs.Received.{inquiry_of}
use Rattle.demands.specs.Promises.{ToldAlike, FormsAgree, FormChangesOnlySense, UsualForm}

-- A status without a key is none that tells sense data.
untold_status : (ten : Bool) → cond ten busy no_status ≡ check_condition → ⊥
untold_status true e = omega (arith, e)
untold_status false e = omega (arith, e)

good_untold : good ≡ check_condition → ⊥
good_untold e = omega (arith, e)

none_untold : no_status ≡ check_condition → ⊥
none_untold e = omega (arith, e)

module _ (form other : ℕ) (f : is_fixed form ≡ true) (o : is_fixed other ≡ false) (room : List ℕ) where
  -- Nothing is told, and nothing written.
  quiet : (status : ℕ) → (status ≡ check_condition → ⊥) → ToldAlike status room room room
  quiet status h = record { told = λ e. absurd (h e); untold = λ _. (refl, refl) }

  -- Sense data are told.
  written_alike : 22 ≤ length room → (key asc ascq : ℕ) (told : Told) → ToldAlike check_condition room (written room 0 (sense_data form key asc ascq told)) (written room 0 (sense_data other key asc ascq told))
  written_alike enough key asc ascq told = record { told = λ _. written_agree room enough key asc ascq told form other f o; untold = λ h. absurd (h refl) }

  -- A refusal does one or the other.
  refused_alike : (n : ℕ) → Roomy n (length room) → ToldAlike (row_of n).status room (refused_sense form n room) (refused_sense other n room)
  refused_alike n enough = by (eqb (row_of n).key 0) refl
    where
      by : (t : Bool) → eqb (row_of n).key 0 ≡ t → ToldAlike (row_of n).status room (refused_sense form n room) (refused_sense other n room)
      by true e =
          let z = eqb-true (row_of n).key 0 e in
          rw (writes_nothing n form room z, writes_nothing n other room z, busy_or_none n z) (quiet (cond (eqb n 10) busy no_status) (untold_status (eqb n 10)))
      by false e =
          let z = eqb-false (row_of n).key 0 e in
          rw (writes n form room z, writes n other room z, checks n z) (written_alike (enough z) (row_of n).key (row_of n).asc (row_of n).ascq _)

  of_inquiry : (q : Request) (lent : List ℕ) → ToldAlike (inquiry q form lent room).answer.status room (inquiry q form lent room).sense (inquiry q other lent room).sense
  unfolding inquiry InquiryChecks.refusal_of
  of_inquiry q lent = by (eqb r 0) (passes_through (is_packet q) q.command)
    where
      r : ℕ
      r = InquiryChecks.refusal_of q (length lent) (length room)

      enough : Roomy r (length room)
      enough = roomy_unless (InquiryChecks.wrong_size q.block q.signature q.texts q.ports q.address (length room)) _ (λ w. (InquiryLaws.sized q.block q.signature q.texts q.ports q.address (length room) w).enough) refl

      either : ℕ → Bool → Bool → Inquiry.Outcome
      either g t through = cond t (cond through (Inquiry.passed q lent room) (Inquiry.served q lent room)) (Inquiry.refused g r lent room)

      by : (t through : Bool) → ToldAlike (either form t through).answer.status room (either form t through).sense (either other t through).sense
      by true true = quiet good good_untold
      by true false = quiet good good_untold
      by false through = refused_alike r enough

  of_submit : (p : Pending) (command registers block : List ℕ) (declared edition : ℕ) → ToldAlike (submit p command registers block declared edition form room).submitted.taken.status room (submit p command registers block declared edition form room).sense (submit p command registers block declared edition other room).sense
  unfolding submit Check.refusal_of
  of_submit p command registers block declared edition = by (eqb r 0) (eqb (protocol command) 15) refl
    where
      r : ℕ
      r = Submit.refusal_of p command registers block declared edition (length room)

      enough : Roomy r (length room)
      enough = roomy_unless (Check.wrong_size (length registers) (length room)) _ (λ w. (PassLaws.sized (length registers) (length room) w).1) refl

      either : ℕ → Bool → Bool → Submit.Outcome
      either g t told = cond t (cond told (Submit.reported p registers g room) (Submit.taken p (Submit.made command block declared edition) room)) (Submit.refused p g r room)

      by : (t told : Bool) → eqb r 0 ≡ t → ToldAlike (either form t told).submitted.taken.status room (either form t told).sense (either other t told).sense
      by true true e = written_alike (PassLaws.sized (length registers) (length room) (silent (Check.checks_of (not (nothing_pending p)) (reset_pending p) (Submit.is_later edition) command (length registers) block declared (length room)) refl (eqb-true r 0 e)).0).1 0x01 0x00 0x1D (showing false registers)
      by true false e = quiet no_status none_untold
      by false told e = refused_alike r enough

  of_complete : (p : Pending) (registers : List ℕ) → ToldAlike (complete p registers form room).completed.ended.status room (complete p registers form room).sense (complete p registers other room).sense
  unfolding complete Complete.refusal_of
  of_complete p registers = by (eqb r 0) (failed registers) (is_set p.order.ck_cond) refl
    where
      r : ℕ
      r = Complete.refusal_of p registers (length room)

      enough : Roomy r (length room)
      enough = roomy_unless (Check.wrong_size (length registers) (length room)) _ (λ w. (PassLaws.sized (length registers) (length room) w).1) refl

      either : ℕ → Bool → Bool → Bool → Complete.Outcome
      either g t error checked =
          cond t
          (Complete.outcome (Complete.answer empty 0 (cond error check_condition (cond checked check_condition good)) (lost p) (lost_protocol p))
          (cond error (written room 0 (sense_data g 0x0B 0x00 0x00 (showing (is_set p.order.extend) registers)))
          (cond checked (written room 0 (sense_data g 0x01 0x00 0x1D (showing (is_set p.order.extend) registers))) room)))
          (Complete.refused p g r room)

      here : eqb r 0 ≡ true → 22 ≤ length room
      here e = (PassLaws.sized (length registers) (length room) (silent (Complete.checks_of p registers (length room)) refl (eqb-true r 0 e)).0).1

      by : (t error checked : Bool) → eqb r 0 ≡ t → ToldAlike (either form t error checked).completed.ended.status room (either form t error checked).sense (either other t error checked).sense
      by true true checked e = written_alike (here e) 0x0B 0x00 0x00 _
      by true false true e = written_alike (here e) 0x01 0x00 0x1D _
      by true false false e = quiet good good_untold
      by false error checked e = refused_alike r enough

  of_inquiry_from_intake : (have : ℕ) (store command signature texts reply : List ℕ) (ports : Ports) (address lent : List ℕ) → ToldAlike (inquiry_of have store command signature texts reply ports address form lent room).answer.status room (inquiry_of have store command signature texts reply ports address form lent room).sense (inquiry_of have store command signature texts reply ports address other lent room).sense
  unfolding inquiry_of row_of refused_sense
  of_inquiry_from_intake have store command signature texts reply ports address lent = by (wrong_intake have (length store))
    where
      either : ℕ → Bool → Inquiry.Outcome
      either g t = cond t (Inquiry.refused g 1 lent room) (inquiry (request command (block_of have store) signature texts reply ports address) g lent room)

      by : (t : Bool) → ToldAlike (either form t).answer.status room (either form t).sense (either other t).sense
      by true = quiet no_status none_untold
      by false = of_inquiry (request command (block_of have store) signature texts reply ports address) lent

pub forms_agree_everywhere : FormsAgree
forms_agree_everywhere =
    record {
      of_sense_data = forms_agree;
      of_inquiry = λ q form other room sense f o. of_inquiry form other f o sense q room;
      of_submit = λ p command registers block declared edition form other sense f o. of_submit form other f o sense p command registers block declared edition;
      of_complete = λ p registers form other sense f o. of_complete form other f o sense p registers;
      of_inquiry_from_intake = λ have store command signature texts reply ports address form other room sense f o. of_inquiry_from_intake form other f o sense have store command signature texts reply ports address room;
    }

-- All but the sense data, by what was decided.
module _ (q : Request) (form other : ℕ) (room sense : List ℕ) where
  abbrev inquiry_by : ℕ → Bool → Bool → Inquiry.Outcome
  inquiry_by g t through =
      cond t (cond through (Inquiry.passed q room sense) (Inquiry.served q room sense)) (Inquiry.refused g (InquiryChecks.refusal_of q (length room) (length sense)) room sense)

  of_inquiry_rest : (t through : Bool) → ((inquiry_by form t through).answer ≡ (inquiry_by other t through).answer) × ((inquiry_by form t through).room ≡ (inquiry_by other t through).room)
  of_inquiry_rest true through = (refl, refl)
  of_inquiry_rest false through = (refl, refl)

module _ (p : Pending) (command registers block : List ℕ) (declared edition form other : ℕ) (sense : List ℕ) where
  abbrev submit_by : ℕ → Bool → Bool → Submit.Outcome
  submit_by g t told =
      cond t (cond told (Submit.reported p registers g sense) (Submit.taken p (Submit.made command block declared edition) sense)) (Submit.refused p g (Submit.refusal_of p command registers block declared edition (length sense)) sense)

  of_submit_rest : (t told : Bool) → (submit_by form t told).submitted ≡ (submit_by other t told).submitted
  of_submit_rest true true = refl
  of_submit_rest true false = refl
  of_submit_rest false told = refl

module _ (p : Pending) (registers : List ℕ) (form other : ℕ) (sense : List ℕ) where
  abbrev complete_by : ℕ → Bool → Complete.Outcome
  complete_by g t = cond t (Complete.ended p registers g sense) (Complete.refused p g (Complete.refusal_of p registers (length sense)) sense)

  of_complete_rest : (t : Bool) → (complete_by form t).completed ≡ (complete_by other t).completed
  of_complete_rest true = refl
  of_complete_rest false = refl

module _ (have : ℕ) (store command signature texts reply : List ℕ) (ports : Ports) (address : List ℕ) (form other : ℕ) (room sense : List ℕ) where
  abbrev asked : Request
  asked = request command (block_of have store) signature texts reply ports address

  abbrev intake_by : ℕ → Bool → Inquiry.Outcome
  intake_by g t = cond t (Inquiry.refused g 1 room sense) (inquiry asked g room sense)

  of_intake_rest : (t : Bool) → ((intake_by form t).answer ≡ (intake_by other t).answer) × ((intake_by form t).room ≡ (intake_by other t).room)
  unfolding inquiry
  of_intake_rest true = (refl, refl)
  of_intake_rest false = of_inquiry_rest asked form other room sense (eqb (InquiryChecks.refusal_of asked (length room) (length sense)) 0) (passes_through (is_packet asked) command)

pub form_changes_only_sense : FormChangesOnlySense
unfolding inquiry submit complete inquiry_of
form_changes_only_sense =
    record {
      of_inquiry = λ q form other room sense. of_inquiry_rest q form other room sense (eqb (InquiryChecks.refusal_of q (length room) (length sense)) 0) (passes_through (is_packet q) q.command);
      of_submit = λ p command registers block declared edition form other sense. of_submit_rest p command registers block declared edition form other sense (eqb (Submit.refusal_of p command registers block declared edition (length sense)) 0) (eqb (protocol command) 15);
      of_complete = λ p registers form other sense. of_complete_rest p registers form other sense (eqb (Complete.refusal_of p registers (length sense)) 0);
      of_inquiry_from_intake = λ have store command signature texts reply ports address form other room sense. of_intake_rest have store command signature texts reply ports address form other room sense (wrong_intake have (length store));
    }

-- The entries know of a form by the sense data alone.
pub usual_form : UsualForm
unfolding is_fixed sense_data refused_sense inquiry submit complete inquiry_of
usual_form =
    record {
      of_fixed = λ key asc ascq told. refl;
      of_descriptor = λ key asc ascq told. refl;
      of_inquiry = λ q room sense. refl;
      of_submit = λ p command registers block declared edition sense. refl;
      of_complete = λ p registers sense. refl;
      of_inquiry_from_intake = λ have store command signature texts reply ports address room sense. refl;
    }
