-- INQUIRY: no reply passes the allocation length (demand 1), a reply cut again is the reply to the lesser length, and when the pages
-- 83h of two drives are equal (demand 3).
use mathlib.Core.Path.{◌≡◌, refl, sym, ap, ◌∙◌}
use mathlib.Core.Bool.{Bool, true, false, cond, ◌&&◌, ◌||◌, not, or-true}
use mathlib.Core.List.{List, ◌++◌}
use Prim.Native.Nat.{ℕ, ◌/◌, ◌%◌, ◌≤◌, ◌<◌, min}
use native.Mathlib.Omega.{arith}
use lib.Dec.{eqb}
use lib.ListN.{length, get_or, take, drop, set, length-take, length-set}
use lib.Seq.{take-append-le, get_or-set_same, get_or-set_other}
use borrow.Author.Tests.{eq-eqb, ne_eqb, eqb-false, le-ltb}
use Rattle.laws.proofs.Laws.{cut_twice, cut_to_more, cut_to_the_size}
use Rattle.page83.specs.Page83.{page83}
use Rattle.inquiry_fields.specs.Fields.{evpd, page_code, allocation}
use Rattle.inquiry_asked.specs.Request.{Request, passes_through, is_packet}
use Rattle.inquiry_asked.specs.Asked.{page, to_write}
use Rattle.inquiry_checks.specs.Checks.{refusal_of}
use Rattle.inquiry_checks.specs.Helpers.{early_refusal}
use Rattle.inquiry_checks.proofs.Laws.{granted, accepted_early}
use Rattle.inquiry.specs.Inquiry.{Outcome, refused, passed, served, inquiry}
use Rattle.demands.specs.Promises.{Within, WithinAllocation, AlwaysWithinAllocation, ReadsAlike, ReadAlike, with_allocation, asking, shown, CutsAgain, CutAgain, AlwaysCutAgain, AsksItsName, PagesOfInquiry}
use Rattle.demands.specs.InquiryRead.{InquiryRead, read_of_inquiry}
use Rattle.demands.specs.Answerable.{with_block}
use Rattle.demands.proofs.Refusals.{not_refused}
use Rattle.demands.proofs.FromIntake.{of_both}
use Rattle.demands.proofs.Page83.{tells_apart}

within : Within inquiry
unfolding inquiry
within q form room sense = by (eqb (refusal_of q (length room) (length sense)) 0) (passes_through (is_packet q) q.command)
  where
    by : (ok through : Bool) → (cond ok (cond through (passed q room sense) (served q room sense)) (refused form (refusal_of q (length room) (length sense)) room sense)).answer.count ≤ allocation q.command
    by true true = omega arith
    by true false = omega arith
    by false through = omega arith

pub within_allocation : WithinAllocation
within_allocation = within

pub always_within_allocation : AlwaysWithinAllocation
always_within_allocation = of_both Within within (λ q form room sense. omega arith) (λ block q. within (with_block q block))

-- An outcome hangs on what is read of the command alone.
reads_alike : ReadsAlike inquiry
unfolding inquiry refusal_of page read_of_inquiry
reads_alike q command other form room sense e =
    rw (
      ap (λ (r : InquiryRead). r.empty) e,
      ap (λ (r : InquiryRead). r.short) e,
      ap (λ (r : InquiryRead). r.opcode) e,
      ap (λ (r : InquiryRead). r.evpd) e,
      ap (λ (r : InquiryRead). r.cmddt) e,
      ap (λ (r : InquiryRead). r.page_code_is) e,
      ap (λ (r : InquiryRead). r.allocation) e,
      ap (λ (r : InquiryRead). r.naca) e,
    )

pub read_alike : ReadAlike
read_alike =
    of_both ReadsAlike reads_alike (λ q command other form room sense e. refl) (λ block q. reads_alike (with_block q block))

-- What an accepted INQUIRY shows: the drive's own reply or the page, cut to the allocation length.
module _ (q : Request) (form : ℕ) (room sense : List ℕ) where
  abbrev refusal : ℕ
  refusal = refusal_of q (length room) (length sense)

  abbrev accepted : Bool → Outcome
  accepted through = cond through (passed q room sense) (served q room sense)

  pub zero : (inquiry q form room sense).answer.number ≡ 0 → refusal ≡ 0
  unfolding inquiry
  zero e = not_refused (λ (o : Outcome). o.answer.number) (λ n. refused form n room sense) (accepted (passes_through (is_packet q) q.command)) refusal refl e

  early : refusal ≡ 0 → early_refusal q (length sense) ≡ 0
  early z = accepted_early q (length room) (length sense) z

  inquiry_is : refusal ≡ 0 → inquiry q form room sense ≡ accepted (passes_through (is_packet q) q.command)
  unfolding inquiry
  inquiry_is z = rw (eq-eqb refusal 0 z)

  pub number_zero : refusal ≡ 0 → (inquiry q form room sense).answer.number ≡ 0
  number_zero z = ap (λ (o : Outcome). o.answer.number) (inquiry_is z) ∙ by (passes_through (is_packet q) q.command)
    where
      by : (t : Bool) → (accepted t).answer.number ≡ 0
      by true = refl
      by false = refl

  pub shows : refusal ≡ 0 → shown q (inquiry q form room sense) ≡ take (allocation q.command) (cond (passes_through (is_packet q) q.command) q.reply (page q))
  shows z = ap (shown q) (inquiry_is z) ∙ by (passes_through (is_packet q) q.command)
    where
      by : (t : Bool) → shown q (accepted t) ≡ take (allocation q.command) (cond t q.reply (page q))
      by true = cut_to_the_size (allocation q.command) q.reply
      by false =
          let n = to_write q in
          let least : min n n ≡ n = omega arith in
          take-append-le n (take n (page q)) (drop n room) (omega (arith, length-take n (page q)))
          ∙ cut_twice n n (page q)
          ∙ ap (λ (k : ℕ). take k (page q)) least
          ∙ cut_to_the_size (allocation q.command) (page q)

-- Bytes 3 and 4 of a command are its allocation length, and nothing else hangs on them.
module _ (q : Request) where
  elsewhere : (n i : ℕ) → eqb i 3 ≡ false → eqb i 4 ≡ false → get_or (with_allocation n q.command) i 0 ≡ get_or q.command i 0
  elsewhere n i h k =
      get_or-set_other (set q.command 3 (n / 0x100)) 4 i (n % 0x100) 0 (eqb-false _ _ k)
      ∙ get_or-set_other q.command 3 i (n / 0x100) 0 (eqb-false _ _ h)

  abbrev whatever : List ℕ
  whatever = cond (passes_through (is_packet q) q.command) q.reply (page q)

  same_reply : (n : ℕ) → cond (passes_through (is_packet q) (with_allocation n q.command)) q.reply (page (asking q n)) ≡ whatever
  unfolding page
  same_reply n = simp (elsewhere n 1 refl refl, elsewhere n 2 refl refl)

  own_length : (n : ℕ) → 6 ≤ length (with_allocation n q.command) → n < 0x10000 → allocation (with_allocation n q.command) ≡ n
  own_length n l h =
      let k : 6 ≤ length (set q.command 3 (n / 0x100)) = omega (arith, length-set (set q.command 3 (n / 0x100)) 4 (n % 0x100)) in
      let m : 6 ≤ length q.command = omega (arith, length-set q.command 3 (n / 0x100)) in
      let high : get_or (with_allocation n q.command) 3 0 ≡ n / 0x100 =
      get_or-set_other (set q.command 3 (n / 0x100)) 4 3 (n % 0x100) 0 (eqb-false 3 4 refl) ∙ get_or-set_same q.command 3 (n / 0x100) 0 (omega arith) in
      let low : get_or (with_allocation n q.command) 4 0 ≡ n % 0x100 = get_or-set_same (set q.command 3 (n / 0x100)) 4 (n % 0x100) 0 (omega arith) in
      rw (high, low) (omega arith)

  shows_asked : (n form : ℕ) (room sense : List ℕ) → n < 0x10000 → (inquiry (asking q n) form room sense).answer.number ≡ 0 → shown (asking q n) (inquiry (asking q n) form room sense) ≡ take n whatever
  shows_asked n form room sense h e =
      let z = zero (asking q n) form room sense e in
      let l = (granted (asking q n) (length sense) (early (asking q n) form room sense z)).whole in
      shows (asking q n) form room sense z ∙ ap (λ (k : ℕ). take k (cond (passes_through (is_packet q) (with_allocation n q.command)) q.reply (page (asking q n)))) (own_length n l h) ∙ ap (take n) (same_reply n)

cuts_again : CutsAgain inquiry
cuts_again q a b form other-form room sense other-room other-sense le lt ea eb =
    let least : min b a ≡ a = omega arith in
    shows_asked q a form room sense (omega arith) ea
    ∙ sym (ap (take a) (shows_asked q b other-form other-room other-sense lt eb) ∙ cut_twice b a (whatever q) ∙ ap (λ (n : ℕ). take n (whatever q)) least)

pub cut_again : CutAgain
cut_again = cuts_again

pub always_cut_again : AlwaysCutAgain
always_cut_again =
    of_both CutsAgain cuts_again (λ q a b form other-form room sense other-room other-sense le lt ea eb. absurd (omega (arith, ea)))
    (λ block q. cuts_again (with_block q block))

-- Asked for the complete page 83h, it shows the page.
module _ (q : Request) (form : ℕ) (room sense : List ℕ) (a : AsksItsName q room sense) where
  abbrev whole_page : List ℕ
  whole_page = page83 q.block q.ports q.address

  through : passes_through (is_packet q) q.command ≡ false
  through = rw a.disk

  page_is : page q ≡ whole_page
  unfolding page
  page_is = rw (a.disk, a.page_asked, a.page_83h)

  accepts : refusal q form room sense ≡ 0
  unfolding refusal_of
  accepts =
      let fits : to_write q ≤ length room = omega (arith, ap length page_is, a.writable.enough) in
      rw (
        le-ltb (length room) (to_write q) fits,
        a.writable.whole,
        a.signature,
        a.texts,
        a.writable.right_address,
        le-ltb (length sense) 22 a.sense_room_is,
        a.writable.passes,
        ne_eqb (length q.command) 0 (λ e. absurd (omega (arith, e, a.whole_command))),
        a.opcode,
        le-ltb (length q.command) 6 a.whole_command,
        a.disk,
        a.no_naca,
        a.no_cmddt,
        a.page_asked,
        a.page_83h,
        a.writable.right_port,
      )

  shown_is : shown q (inquiry q form room sense) ≡ whole_page
  shown_is =
      shows q form room sense accepts
      ∙ rw (through, page_is) (cut_to_more (allocation q.command) whole_page a.complete)

pub pages_of_inquiry : PagesOfInquiry
pages_of_inquiry q r form other-form room sense other-room other-sense a b = (
  number_zero q form room sense (accepts q form room sense a),
  number_zero r other-form other-room other-sense (accepts r other-form other-room other-sense b),
  rw (shown_is q form room sense a, shown_is r other-form other-room other-sense b) (tells_apart a.writable b.writable),
)
