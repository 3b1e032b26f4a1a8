-- Damaged blocks: what each entry answers, and what the sum that an intake carries along decides.
use mathlib.Core.Path.{◌≡◌, refl}
use mathlib.Core.Bool.{Bool, true, false, cond}
use mathlib.Core.List.{List, []}
use Prim.Native.Nat.{ℕ, ◌/◌, ◌%◌}
use native.Mathlib.Omega.{arith}
use lib.Dec.{leb}
use lib.ListN.{length, take}
use borrow.Author.Tests.{eq-eqb, le-ltb, leb-true, leb-false}
use Rattle.checksum.specs.Checksum.{sum_of, damaged_by, damaged, any_damaged}
use Rattle.checksum.proofs.Laws.{damaged_at, damaged_size}
use Rattle.refusals.specs.Refusal.{row_of, refused_sense, no_status}
use Rattle.port.specs.declared.Ports.{Ports}
use Rattle.port.specs.Ports.{wrong_address}
use Rattle.page83.specs.Page83 as Page83
use Rattle.page83.specs.Page83.{write}
use Rattle.inquiry_asked.specs.Request.{Request, request}
use Rattle.inquiry_checks.specs.Checks as InquiryChecks
use Rattle.inquiry.specs.Inquiry as Inquiry
use Rattle.inquiry.specs.Inquiry.{inquiry}
use Rattle.roll.specs.Roll as Roll
use Rattle.roll.specs.Roll.{roll, blocks}
use Rattle.roll.proofs.Laws.{length_blocks, block_of_is}
use Rattle.intake.specs.Intake.{block_of}
use Rattle.intake.specs.Stream.{begin, runs, stream}
use Rattle.intake.proofs.Stream.{whole_block, sum_of_the_block, no_block_yet}
use Rattle.gathering.specs.Gathering as Gathering
use Rattle.gathering.specs.Gathering.{gather_of, gathered}
use Rattle.received.specs.Received as Received
use Rattle.received.specs.Received.{inquiry_of, roll_of}
use Rattle.checker.proofs.Judging.{damaged_block_is}
use Rattle.tally.specs.Census.{refusal_of, feed}
use Rattle.passthrough_order.specs.Order.{no_order}
use Rattle.passthrough_checks.specs.Checks as PassChecks
use Rattle.passthrough.specs.declared.Pending.{Pending}
use Rattle.passthrough.specs.Submit as Submit
use Rattle.passthrough.specs.Submit.{is_later, submit}
use Rattle.demands.specs.Promises.{SomeDamaged, RollSized, DamagedIsRefused, CarriedSum}

of_inquiry : (q : Request) (form : ℕ) (room sense : List ℕ) → InquiryChecks.wrong_size q.block q.signature q.texts q.ports q.address (length sense) ≡ false → damaged q.block ≡ true → inquiry q form room sense ≡ Inquiry.outcome (record { number = 18; status = no_status; shown = 1; count = 0 }) room sense
unfolding inquiry InquiryChecks.refusal_of refused_sense row_of
of_inquiry q form room sense s d = rw (s, d)

of_submit : (p : Pending) (command registers block : List ℕ) (declared edition form : ℕ) (sense : List ℕ) → is_later edition ≡ true → PassChecks.wrong_size (length registers) (length sense) ≡ false → damaged block ≡ true → submit p command registers block declared edition form sense ≡ Submit.outcome (Submit.answer p 18 no_status no_order) sense
unfolding submit PassChecks.refusal_of refused_sense row_of
of_submit p command registers block declared edition form sense l s d = rw (l, s, eq-eqb _ _ (damaged_size block d), d)

of_write : (block : List ℕ) (ports : Ports) (address room : List ℕ) → wrong_address ports address ≡ false → damaged block ≡ true → write block ports address room ≡ Page83.outcome (record { number = 18; count = 0 }) room
unfolding write Page83.refusal_of
of_write block ports address room a d = rw (eq-eqb _ _ (damaged_size block d), a, d)

some_damaged : (bytes : List ℕ) → SomeDamaged bytes → any_damaged (blocks bytes) ≡ true
some_damaged bytes w =
    let n = length bytes / 512 in
    damaged_at (blocks bytes) w.0 (rw (length_blocks n bytes) w.1) (rw (block_of_is n w.0 bytes w.1) w.2)

roll_refusal : (bytes : List ℕ) (entries : ℕ) → RollSized bytes entries → SomeDamaged bytes → Roll.refusal_of bytes entries ≡ 18
unfolding Roll.refusal_of
roll_refusal bytes entries s w = rw (eq-eqb _ _ s.whole, le-ltb _ _ s.few, le-ltb _ _ s.enough, some_damaged bytes w)

pub damaged_is_refused : DamagedIsRefused
unfolding roll gather_of Gathering.gather_refusal inquiry_of roll_of Received.refusal_of feed refusal_of
damaged_is_refused =
    record {
      of_inquiry = of_inquiry;
      of_submit = of_submit;
      of_write = of_write;
      of_roll = λ bytes room s w. rw (roll_refusal bytes (length room) s w);
      of_gather = λ haves stores room right w. rw (right, some_damaged (gathered haves stores) w);
      of_inquiry_from_intake = λ have store command signature texts reply ports address form room sense right s d. rw right (of_inquiry (request command (block_of have store) signature texts reply ports address) form room sense s d);
      of_roll_of_intakes = λ haves stores room rows right s w. rw (right, roll_refusal (gathered haves stores) (length rows) s w);
      of_feed = λ c block fit d. rw (eq-eqb _ _ (damaged_size block d), fit, d);
      of_check = damaged_block_is;
    }

-- A sum that is kept modulo 256 decides as the whole sum does.
by_remainder : (sum : ℕ) (block : List ℕ) → damaged_by (sum % 256) block ≡ damaged_by sum block
unfolding damaged_by
by_remainder sum block =
    let e : sum % 256 % 256 ≡ sum % 256 = omega arith in
    rw e

-- Without a block there is nothing to decide.
none : (sum : ℕ) → damaged_by sum [] ≡ damaged_by (sum_of []) []
unfolding damaged_by
none sum = refl

pub carried_sum : CarriedSum
unfolding damaged
carried_sum store l rs = by (leb 512 (length (stream rs))) refl
  where
    by : (b : Bool) → leb 512 (length (stream rs)) ≡ b → damaged_by (runs (begin store) rs).intake.sum (block_of (runs (begin store) rs).intake.have (runs (begin store) rs).store) ≡ damaged (cond b (take 512 (stream rs)) [])
    by true e =
        let h = leb-true 512 (length (stream rs)) e in
        rw (sum_of_the_block store l rs h, whole_block store l rs h) (by_remainder (sum_of (take 512 (stream rs))) (take 512 (stream rs)))
    by false e = rw (no_block_yet store l rs (leb-false 512 (length (stream rs)) e)) (none (runs (begin store) rs).intake.sum)
