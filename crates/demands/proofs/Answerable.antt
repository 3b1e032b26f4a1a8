-- INQUIRY accepts exactly what is answerable: each of its checks does not apply exactly where the check's row says so in words.
use mathlib.Core.Path.{◌≡◌, refl, sym, ◌∙◌}
use mathlib.Core.Bool.{Bool, true, false, cond, ◌&&◌, ◌||◌, not, and-eq-true_iff, true≢false, and-false, or-true, or_assoc}
use mathlib.Core.Logic.{◌⊎◌, inl, inr, ⊎_elim, ◌↔◌}
use mathlib.Core.List.{List}
use Prim.Native.Nat.{ℕ, ◌≤◌}
use native.Mathlib.Omega.{arith}
use lib.Dec.{eqb, ltb}
use lib.ListN.{length}
use borrow.Author.Tests.{eq-eqb, ne_eqb, eqb-true, eqb-false, le-ltb, ltb-false, not-true, not-false}
use Rattle.rules.proofs.First.{silent, neither}
use Rattle.identify.proofs.Bytes.{never}
use Rattle.port.specs.declared.Ports.{Ports}
use Rattle.port.specs.Ports.{relative_chosen, sas_chosen, is_port, wrong_address, wrong_port}
use Rattle.packet.specs.Packet.{unusable}
use Rattle.inquiry_fields.specs.Fields.{evpd, cmddt, page_code, naca}
use Rattle.inquiry_asked.specs.Request.{Request, is_packet, passes_through}
use Rattle.inquiry_asked.specs.Asked.{to_write}
use Rattle.inquiry_checks.specs.Checks.{wrong_field, known_page, wrong_page, no_block, no_port, no_list, checks, refusal_of}
use Rattle.inquiry_checks.proofs.Laws.{sized}
use Rattle.buildable.proofs.Laws.{one_of}
use Rattle.inquiry.specs.Inquiry.{refused, inquiry}
use Rattle.intake.specs.Intake.{wrong_intake, block_of}
use Rattle.intake.proofs.Laws.{right}
use Rattle.received.specs.Received.{inquiry_of}
use Rattle.demands.specs.Answerable.{AsksStandard, AsksPage, AsksOfBlock, Known, PortNumber, Disk, PacketDrive, ItsPage, MadeHere}
use Rattle.demands.specs.Answerable.{Answerable, with_block, AnswerableFrom}
use Rattle.demands.specs.Promises.{from_intake, Accepts, InquiryAccepts}
use Rattle.demands.proofs.Inquiry.{zero, number_zero}

-- Two tests do not both hold exactly if the second does not where the first does.
module _ (a b : Bool) where
  then_not : (a && b) ≡ false → a ≡ true → b ≡ false
  then_not e h = rw h at e

  not_both : (a ≡ true → b ≡ false) → (a && b) ≡ false
  not_both w = by a refl
    where
      by : (t : Bool) → a ≡ t → (t && b) ≡ false
      by true h = w h
      by false h = refl

-- A test holds exactly where something is so.
abbrev Tells : Bool → Type 0 → Type 0
Tells test A = (test ≡ true) ↔ A

equal : (m n : ℕ) → Tells (eqb m n) (m ≡ n)
equal m n = (eqb-true m n, eq-eqb m n)

either : {a b : Bool} {A B : Type 0} → Tells a A → Tells b B → Tells (a || b) (A ⊎ B)
either {a} {b} s t = (
  λ e. ⊎_elim (λ h. inl (s.0 h)) (λ h. inr (t.0 h)) (one_of a b e),
  ⊎_elim (λ h. rw (s.1 h)) (λ h. rw (t.1 h) (or-true a)),
)

-- The sizes of a block, the pages that there are, and the numbers of a relative target port.
whole_or_none : (n : ℕ) → Tells (eqb n 512 || eqb n 0) ((n ≡ 512) ⊎ (n ≡ 0))
whole_or_none n = either (equal n 512) (equal n 0)

known : (code : ℕ) → Tells (known_page code) (Known code)
known code = simp or_assoc (either (equal code 0x00) (either (equal code 0x80) (either (equal code 0x83) (equal code 0x89))))

port_number : (n : ℕ) → Tells (is_port n) (PortNumber n)
port_number n = either (equal n 1) (equal n 2)

-- The checks that look at the command alone, and beside it at block or ports.
module _ (c : List ℕ) where
  abbrev Right : Type 0
  Right = (naca c ≡ false) × (cmddt c ≡ false) × (AsksStandard c → page_code c ≡ 0x00)

  fields_right : (wrong_field c ≡ false) ↔ Right
  fields_right = (
    λ e.
        let page = neither (naca c || cmddt c) _ e in
        let bits = neither (naca c) (cmddt c) page.0 in
        (bits.0, bits.1, λ v. eqb-true _ _ (not-false _ (then_not (not (evpd c)) _ page.1 (rw v)))),
    λ w. rw (w.0, w.1) (not_both (not (evpd c)) _ (λ h. rw (w.2 (not-true _ h)))),
  )

  page_right : (wrong_page c ≡ false) ↔ (evpd c ≡ true → Known (page_code c))
  page_right = (
    λ e v. (known (page_code c)).0 (not-false _ (then_not (evpd c) _ e v)),
    λ w. not_both (evpd c) _ (λ v. rw ((known (page_code c)).1 (w v))),
  )

  of_block : Tells (not (evpd c) || eqb (page_code c) 0x80 || eqb (page_code c) 0x83) (AsksOfBlock c)
  of_block = (λ e. by (evpd c) refl e, asked)
    where
      by : (v : Bool) → evpd c ≡ v → (not v || eqb (page_code c) 0x80 || eqb (page_code c) 0x83) ≡ true → AsksOfBlock c
      by true v e = inr (⊎_elim (λ z. inl (v, eqb-true _ _ z)) (λ z. inr (v, eqb-true _ _ z)) (one_of _ _ e))
      by false v e = inl v

      asked : AsksOfBlock c → (not (evpd c) || eqb (page_code c) 0x80 || eqb (page_code c) 0x83) ≡ true
      asked (inl v) = rw v
      asked (inr (inl (v, z))) = rw (v, z)
      asked (inr (inr (v, z))) = rw (v, z)

  module _ (block : List ℕ) (size : (length block ≡ 512) ⊎ (length block ≡ 0)) where
    block_right : (no_block c block ≡ false) ↔ (AsksOfBlock c → length block ≡ 512)
    block_right = (
      λ e a. ⊎_elim (λ whole. whole) (λ none. absurd (lacking e none a)) size,
      λ w. not_both (eqb (length block) 0) _ (λ none. never _ (λ t. not_whole (eqb-true _ _ none) (w (of_block.0 t)))),
    )
      where
        lacking : no_block c block ≡ false → length block ≡ 0 → AsksOfBlock c → ⊥
        lacking e none a = true≢false (sym (of_block.1 a) ∙ then_not (eqb (length block) 0) _ e (rw none))

        not_whole : length block ≡ 0 → length block ≡ 512 → ⊥
        not_whole none whole = omega arith

  asks_83h : Tells (evpd c && eqb (page_code c) 0x83) (AsksPage 0x83 c)
  asks_83h = (λ e. let w = (and-eq-true_iff (evpd c) _).0 e in (w.0, eqb-true _ _ w.1), λ a. rw (a.0, a.1))

  port_right : (ports : Ports) → (no_port c ports ≡ false) ↔ (AsksPage 0x83 c → relative_chosen ports ≡ true → PortNumber ports.relative)
  unfolding wrong_port
  port_right ports = (
    λ e a r. (port_number ports.relative).0 (not-false _ (then_not chosen _ (then_not asked _ e (asks_83h.1 a)) r)),
    λ w. not_both asked _ (λ a. not_both chosen _ (λ r. rw ((port_number ports.relative).1 (w (asks_83h.0 a) r)))),
  )
    where
      asked : Bool
      asked = evpd c && eqb (page_code c) 0x83

      chosen : Bool
      chosen = relative_chosen ports

-- The checks that look at the drive.
module _ (q : Request) where
  abbrev c : List ℕ
  c = q.command

  abbrev through : Bool
  through = passes_through (is_packet q) c

  of_disk : (t : Bool) → ((not (is_packet q) && t) ≡ false) ↔ (Disk q → t ≡ false)
  of_disk t = (λ e d. then_not (not (is_packet q)) t e (rw d), λ w. not_both (not (is_packet q)) t (λ h. w (not-true _ h)))

  its_page : Tells (evpd c && not (cmddt c) && (eqb (page_code c) 0x00 || eqb (page_code c) 0x89)) (ItsPage c)
  its_page = (
    λ e.
        let w = (and-eq-true_iff (evpd c && not (cmddt c)) _).0 e in
        let bits = (and-eq-true_iff (evpd c) (not (cmddt c))).0 w.0 in
        (bits.0, not-true _ bits.1, page.0 w.1),
    λ w. rw (w.0, w.1) (page.1 w.2),
  )
    where
      page : Tells (eqb (page_code c) 0x00 || eqb (page_code c) 0x89) ((page_code c ≡ 0x00) ⊎ (page_code c ≡ 0x89))
      page = either (equal (page_code c) 0x00) (equal (page_code c) 0x89)

  made_here : (through ≡ false) ↔ MadeHere q
  made_here = (λ e. by e (is_packet q) refl, ⊎_elim (λ d. rw d) (λ w. rw (its_page.1 w) (and-false (is_packet q))))
    where
      by : through ≡ false → (p : Bool) → is_packet q ≡ p → MadeHere q
      by e true p = inr (its_page.0 (not-false _ (then_not (is_packet q) _ e p)))
      by e false d = inl d

  page_usable : (no_list (is_packet q) c q.reply ≡ false)
      ↔ (PacketDrive q → AsksPage 0x00 c → cmddt c ≡ false → unusable q.reply ≡ false)
  page_usable = (
    λ e p a d. then_not asked _ e (rw (p, a.0, a.1, d)),
    λ w. not_both asked _ (λ a.
        let zero = (and-eq-true_iff (is_packet q && not through) _).0 a in
        let packet = (and-eq-true_iff (is_packet q) (not through)).0 zero.0 in
        let page = its_page.0 (not-false _ (then_not (is_packet q) _ (not-true _ packet.1) packet.0)) in
        w packet.0 (page.0, eqb-true _ _ zero.1) page.1),
  )
    where
      asked : Bool
      asked = is_packet q && not through && eqb (page_code c) 0x00

  room_enough : (room : ℕ) → ((not through && ltb room (to_write q)) ≡ false) ↔ (MadeHere q → to_write q ≤ room)
  room_enough room = (
    λ e h. ltb-false _ _ (then_not (not through) _ e (rw (made_here.1 h))),
    λ w. not_both (not through) _ (λ h. le-ltb _ _ (w (made_here.0 (not-true _ h)))),
  )

  address_right : (wrong_address q.ports q.address ≡ false) ↔ (sas_chosen q.ports ≡ true → length q.address ≡ 8)
  unfolding wrong_address
  address_right = (
    λ e h. eqb-true _ _ (not-false _ (then_not (sas_chosen q.ports) _ e h)),
    λ w. not_both (sas_chosen q.ports) _ (λ h. rw (w h)),
  )

-- All checks of a request.
module _ (q : Request) (room sense : List ℕ) where
  abbrev refusal : ℕ
  refusal = refusal_of q (length room) (length sense)

  answerable : refusal ≡ 0 → Answerable q room sense
  unfolding refusal_of
  answerable e =
      let w = silent (checks q (length room) (length sense)) refl e in
      let size = sized q.block q.signature q.texts q.ports q.address (length sense) w.0 in
      let block = (whole_or_none (length q.block)).0 (not-false _ size.whole_or_none) in
      let short = w.1.1.1.1 in
      let fields : Disk q → Right (c q) = λ d. (fields_right (c q)).0 ((of_disk q _).0 short.1.0 d) in
      let port = short.1.1.1.1 in
      record {
        block_size = block;
        signature_size = size.twenty;
        texts_size = size.twenty_eight;
        address_size = (address_right q).0 size.right_address;
        sense_size = size.enough;
        passes = w.1.0;
        not_empty = eqb-false _ _ w.1.1.0;
        opcode = eqb-true _ _ (not-false _ w.1.1.1.0);
        whole = ltb-false _ _ short.0;
        no_naca = λ d. (fields d).0;
        no_cmddt = λ d. (fields d).1;
        no_page_code = λ d. (fields d).2;
        known_page_is = λ d. (page_right (c q)).0 ((of_disk q _).0 short.1.1.0 d);
        block_there = λ d. (block_right (c q) q.block block).0 ((of_disk q _).0 short.1.1.1.0 d);
        right_port = λ d. (port_right (c q) q.ports).0 ((of_disk q _).0 port.0 d);
        usable_page = (page_usable q).0 port.1.0;
        enough = (room_enough q (length room)).0 port.1.1.0;
      }

  accepted : Answerable q room sense → refusal ≡ 0
  unfolding refusal_of
  accepted a =
      rw (
        (whole_or_none (length q.block)).1 a.block_size,
        a.signature_size,
        a.texts_size,
        (address_right q).1 a.address_size,
        le-ltb (length sense) 22 a.sense_size,
        a.passes,
        ne_eqb (length (c q)) 0 a.not_empty,
        a.opcode,
        le-ltb (length (c q)) 6 a.whole,
        (of_disk q (wrong_field (c q))).1 (λ d. (fields_right (c q)).1 (a.no_naca d, a.no_cmddt d, a.no_page_code d)),
        (of_disk q (wrong_page (c q))).1 (λ d. (page_right (c q)).1 (a.known_page_is d)),
        (of_disk q (no_block (c q) q.block)).1 (λ d. (block_right (c q) q.block a.block_size).1 (a.block_there d)),
        (of_disk q (no_port (c q) q.ports)).1 (λ d. (port_right (c q) q.ports).1 (a.right_port d)),
        (page_usable q).1 a.usable_page,
        (room_enough q (length room)).1 a.enough,
      )

-- INQUIRY, and INQUIRY from an intake.
of_inquiry : Accepts inquiry Answerable
of_inquiry q form room sense =
    (λ e. answerable q room sense (zero q form room sense e), λ a. number_zero q form room sense (accepted q room sense a))

of_intake : (have : ℕ) (store : List ℕ) → Accepts (from_intake have store) (AnswerableFrom have store)
unfolding inquiry_of
of_intake have store q form room sense = by (wrong_intake have (length store)) refl
  where
    given : List ℕ
    given = block_of have store

    by : (wrong : Bool)
        → wrong_intake have (length store) ≡ wrong
        → ((cond wrong (refused form 1 room sense) (inquiry (with_block q given) form room sense)).answer.number ≡ 0)
        ↔ AnswerableFrom have store q room sense
    by true h = (λ e. absurd (omega (arith, e)), λ a. absurd (true≢false (sym h ∙ rw (a.store_size, le-ltb 512 have a.claim))))
    by false h =
        let sizes = right have (length store) h in (
          λ e. record { store_size = sizes.0; claim = sizes.1; with_its_block = (of_inquiry (with_block q given) form room sense).0 e },
          λ a. (of_inquiry (with_block q given) form room sense).1 a.with_its_block,
        )

pub inquiry_accepts : InquiryAccepts
inquiry_accepts = record { of_inquiry = of_inquiry; of_inquiry_from_intake = of_intake }
