-- Another maker's bridge: what the check says of a capture, and that the board's own replies are accepted.
use mathlib.Core.Path.{◌≡◌, refl, sym, ap, ◌∙◌}
use mathlib.Core.Bool.{Bool, true, false, cond, ◌&&◌, ◌||◌, not, true≢false}
use mathlib.Core.Logic.{◌⊎◌, inl, inr, ⊎_elim}
use mathlib.Core.List.Memᴰ
use mathlib.Core.List.{List, [], ◌∷◌, ◌++◌, append_assoc, Memᴰ}
use Prim.Native.Nat.{ℕ, zero, suc, ◌+◌, ◌≤◌, ◌<◌}
use native.Mathlib.Omega.{arith}
use lib.Dec.{eqb}
use lib.ListN.{length, get_or, take, drop}
use lib.Seq.{take_at, drop_at, drop-drop}
use borrow.Author.Tests.{eqb-true, ne_eqb, not-false}
use Rattle.rules.proofs.First.{silent}
use Rattle.laws.proofs.Laws.{cut_to_more}
use Rattle.checksum.specs.Checksum.{damaged}
use Rattle.identify.specs.Bytes.{Bytes, no_more, more}
use Rattle.identify.specs.Names.{carries_name}
use Rattle.port.specs.declared.Ports.{Ports}
use Rattle.port.specs.Ports.{relative_chosen, sas_chosen, wrong_address, wrong_port}
use Rattle.page83.specs.Page83.{page83}
use Rattle.port.specs.Helpers.{ports_size}
use Rattle.page83_drive.specs.Helpers.{drive_end}
use Rattle.page83.proofs.Laws.{page_size_is}
use Rattle.pages.specs.Page.{standard, page00, page80, page89, information_head, information_code, block_or_zeros}
use Rattle.pages.proofs.Laws.{length_standard, length_page80, length_page89}
use Rattle.packet.specs.Packet.{packet_drive}
use Rattle.inquiry_fields.specs.Fields.{evpd, page_code, allocation}
use Rattle.inquiry_asked.specs.Request.{Request, is_packet, passes_through}
use Rattle.inquiry_asked.specs.Asked.{page}
use Rattle.inquiry_checks.specs.Checks.{known_page, checks, refusal_of}
use Rattle.inquiry_checks.proofs.Laws.{sized}
use Rattle.inquiry.specs.Inquiry.{inquiry}
use Rattle.capture.specs.Capture.{Field, field, captured}
use Rattle.capture.specs.Layout.{Known, Right, Rising, LaidOut}
use Rattle.capture.proofs.LaidOut.{put_first, put_last}
use Rattle.checker.specs.Check.{texts_of, signature_of, block_of, ours, accepted, check}
use Rattle.checker.specs.Judged.{Choice, Written, all}
use Rattle.checker.proofs.Judged.{accepts, names_the_fault, broken_layout, packet_drive_is, damaged_drive, one_of_these, accepted_is}
use Rattle.demands.specs.Promises.{shown, CheckOfCaptures, Reply, put, own_capture, OwnRepliesAccepted}
use Rattle.demands.proofs.Inquiry.{zero as answered-zero, shows}

byte_at : {s : List ℕ} → Bytes s → (k : ℕ) → get_or s k 0 < 0x100
byte_at no_more k = omega arith
byte_at (more h b) zero = h
byte_at (more h b) (suc k) = byte_at b k

pub check_of_captures : CheckOfCaptures
check_of_captures capture b =
    record {
      accepts = accepts capture (byte_at b);
      names_the_fault = names_the_fault capture (byte_at b);
      broken_layout = broken_layout capture (byte_at b);
      packet_drive_is = packet_drive_is capture (byte_at b);
      damaged_block_is = damaged_drive capture (byte_at b);
      one_of_these = one_of_these capture (byte_at b);
    }

-- Page 89h tells the texts, the signature and the block that went in.
module _ (texts signature block : List ℕ) (ht : length texts ≡ 28) (hs : length signature ≡ 20) (hb : length block ≡ 512) where
  abbrev page89h : List ℕ
  page89h = page89 false texts signature block

  own_block : block_or_zeros block ≡ block
  own_block = rw (ne_eqb (length block) 0 (λ e. omega (arith, e)))

  abbrev behind_signature : List ℕ
  behind_signature = information_code false ++ block

  pieces : page89h ≡ information_head false block ++ (texts ++ (signature ++ behind_signature))
  unfolding page89
  pieces =
      let h = information_head false block in
      ap (λ (b : List ℕ). h ++ texts ++ signature ++ information_code false ++ b) own_block
      ∙ append_assoc (h ++ texts ++ signature) (information_code false) block
      ∙ append_assoc (h ++ texts) signature behind_signature
      ∙ append_assoc h texts (signature ++ behind_signature)

  texts_back : texts_of page89h ≡ texts
  texts_back = ap texts_of pieces ∙ take_at texts (signature ++ behind_signature) 28 ht

  signature_back : signature_of page89h ≡ signature
  signature_back = ap signature_of pieces ∙ ap (take 20) (drop_at texts (signature ++ behind_signature) 28 ht) ∙ take_at signature behind_signature 20 hs

  block_back : block_of page89h ≡ block
  block_back =
      ap block_of pieces
      ∙ sym (drop-drop 24 28 (texts ++ (signature ++ behind_signature)))
      ∙ ap (drop 24) (drop_at texts (signature ++ behind_signature) 28 ht)
      ∙ sym (drop-drop 4 20 (signature ++ behind_signature))
      ∙ ap (drop 4) (drop_at signature behind_signature 20 hs)

  -- So what the writers give of it is what they give of those.
  ours_is : (ports : Ports) (address : List ℕ) (tag : ℕ) → ours page89h ports address tag ≡ cond (eqb tag 0x00) page00 (cond (eqb tag 0x01) (standard block) (cond (eqb tag 0x80) (page80 block) (cond (eqb tag 0x83) (page83 block ports address) page89h)))
  unfolding ours
  ours_is ports address tag = rw (texts_back, signature_back, block_back)

  length_page89h : length page89h ≡ 572
  length_page89h = length_page89 false texts signature block ht hs ∙ rw own_block (omega (arith, hb))

  few_ports : (ports : Ports) → ports_size ports ≤ 20
  unfolding ports_size
  few_ports ports = by (relative_chosen ports) (sas_chosen ports)
    where
      by : (r s : Bool) → cond r 8 0 + cond s 12 0 ≤ 20
      by true true = omega arith
      by true false = omega arith
      by false true = omega arith
      by false false = omega arith

  ours_short : (ports : Ports) (address : List ℕ) (tag : ℕ) → wrong_address ports address ≡ false → length (ours page89h ports address tag) ≤ 572
  unfolding page00
  ours_short ports address tag a = rw (ours_is ports address tag) (by (eqb tag 0x00) (eqb tag 0x01) (eqb tag 0x80) (eqb tag 0x83))
    where
      end : (named : Bool) → drive_end named ≤ 76
      end true = omega arith
      end false = omega arith

      by : (k l m n : Bool) → length (cond k page00 (cond l (standard block) (cond m (page80 block) (cond n (page83 block ports address) page89h)))) ≤ 572
      by true l m n = omega arith
      by false true m n = omega (arith, length_standard block hb)
      by false false true n = omega (arith, length_page80 block hb)
      by false false false true = omega (arith, page_size_is block ports address hb a, few_ports ports, end (carries_name block))
      by false false false false = omega (arith, length_page89h)

  -- A choice counts for page 83h alone.
  any_choice : (ports : Ports) (address : List ℕ) (other : Ports) (other-address : List ℕ) (tag : ℕ) → eqb tag 0x83 ≡ false → ours page89h ports address tag ≡ ours page89h other other-address tag
  unfolding ours
  any_choice ports address other other-address tag e = rw e

-- A reply that is whole is the page that was asked for; and what the checks leave true of the request.
module _ (q : Request) (form : ℕ) (room sense : List ℕ) (z : (inquiry q form room sense).answer.number ≡ 0) (disk : is_packet q ≡ false) (hb : length q.block ≡ 512) (w : length (page q) ≤ allocation q.command) where
  abbrev tag_asked : ℕ
  tag_asked = cond (evpd q.command) (page_code q.command) 0x01

  reply_is : shown q (inquiry q form room sense) ≡ page q
  reply_is =
      let through : passes_through (is_packet q) q.command ≡ false = rw disk in
      shows q form room sense (answered-zero q form room sense z) ∙ rw through (cut_to_more (allocation q.command) (page q) w)

  record Asking : Type 0 where
    passes : damaged q.block ≡ false
    texts : length q.texts ≡ 28
    signature : length q.signature ≡ 20
    right_address : wrong_address q.ports q.address ≡ false
    known : evpd q.command ≡ true → known_page (page_code q.command) ≡ true
    right_port : evpd q.command ≡ true → page_code q.command ≡ 0x83 → wrong_port q.ports ≡ false

  asking : Asking
  unfolding refusal_of
  asking =
      let c = silent (checks q (length room) (length sense)) refl (answered-zero q form room sense z) in
      let s = sized q.block q.signature q.texts q.ports q.address (length sense) c.0 in
      let wrong-page = c.1.1.1.1.1.1 in
      let no-port = wrong-page.1.1 in
      record {
        passes = c.1.0;
        texts = s.twenty_eight;
        signature = s.twenty;
        right_address = s.right_address;
        known = λ e. not-false _ (rw (disk, e) at wrong-page.0);
        right_port = λ e k. rw (disk, e, k) at no-port.0;
      }

  -- The page of its tag, of the drive's page 89h.
  abbrev drive's_page89h : List ℕ
  drive's_page89h = page89 false q.texts q.signature q.block

  own_page : page q ≡ ours drive's_page89h q.ports q.address tag_asked
  unfolding page
  own_page =
      rw (ours_is q.texts q.signature q.block asking.texts asking.signature hb q.ports q.address tag_asked, disk)
      (by (evpd q.command) asking.known)
    where
      code : ℕ
      code = page_code q.command

      by : (e : Bool) → (e ≡ true → known_page code ≡ true) → cond (not e) (standard q.block) (cond (eqb code 0x00) page00 (cond (eqb code 0x80) (page80 q.block) (cond (eqb code 0x83) (page83 q.block q.ports q.address) drive's_page89h))) ≡ cond (eqb (cond e code 0x01) 0x00) page00 (cond (eqb (cond e code 0x01) 0x01) (standard q.block) (cond (eqb (cond e code 0x01) 0x80) (page80 q.block) (cond (eqb (cond e code 0x01) 0x83) (page83 q.block q.ports q.address) drive's_page89h)))
      by false k = refl
      by true k = rw (ne_eqb code 0x01 (λ z. true≢false (sym (k refl) ∙ rw z)))

  -- It is the writer's, with the ports that it was asked with; where they do not count, they may be none.
  own_written : Written drive's_page89h (field tag_asked (page q))
  unfolding wrong_address wrong_port
  own_written = by (eqb tag_asked 0x83) refl
    where
      asks_83h : (e : Bool) → cond e (page_code q.command) 0x01 ≡ 0x83 → (e ≡ true) × (page_code q.command ≡ 0x83)
      asks_83h true z = (refl, z)
      asks_83h false z = absurd (omega (arith, z))

      none : Ports
      none = record { chosen = 0; relative = 0 }

      by : (t : Bool) → eqb tag_asked 0x83 ≡ t → Written drive's_page89h (field tag_asked (page q))
      by true e =
          let a = asks_83h (evpd q.command) (eqb-true tag_asked 0x83 e) in
          (q.ports, q.address, record { right_address = asking.right_address; right_port = asking.right_port a.0 a.1 }, own_page)
      by false e =
          (none, [], record { right_address = refl; right_port = refl }, own_page ∙ any_choice q.texts q.signature q.block asking.texts asking.signature hb q.ports q.address none [] tag_asked e)

  own_right : Right (field tag_asked (page q))
  own_right =
      let short = ours_short q.texts q.signature q.block asking.texts asking.signature hb q.ports q.address tag_asked asking.right_address in
      record {
        known = by (evpd q.command) asking.known;
        two_bytes = omega (arith, ap length own_page, short);
        whole_89h = λ e.
            ap length (own_page ∙ ap (ours drive's_page89h q.ports q.address) e ∙ ours_is q.texts q.signature q.block asking.texts asking.signature hb q.ports q.address 0x89)
            ∙ length_page89h q.texts q.signature q.block asking.texts asking.signature hb;
      }
    where
      code : ℕ
      code = page_code q.command

      served : (a b c d : Bool) → eqb code 0x00 ≡ a → eqb code 0x80 ≡ b → eqb code 0x83 ≡ c → eqb code 0x89 ≡ d → (a || b || c || d) ≡ true → Known code
      served true b c d e f g h k = inl (eqb-true code 0x00 e)
      served false true c d e f g h k = inr (inr (inl (eqb-true code 0x80 f)))
      served false false true d e f g h k = inr (inr (inr (inl (eqb-true code 0x83 g))))
      served false false false d e f g h k = inr (inr (inr (inr (eqb-true code 0x89 (h ∙ k)))))

      by : (e : Bool) → (e ≡ true → known_page code ≡ true) → Known (cond e code 0x01)
      by false k = inr (inl refl)
      by true k = served (eqb code 0x00) (eqb code 0x80) (eqb code 0x83) (eqb code 0x89) refl refl refl refl (k refl)

-- So each reply is the writer's, and may stand in a capture.
module _ {block signature texts : List ℕ} {tag : ℕ} {bytes : List ℕ} (r : Reply block signature texts tag bytes) (hb : length block ≡ 512) (disk : packet_drive signature ≡ false) where
  asked_disk : is_packet r.asked ≡ false
  asked_disk = rw r.of_the_drive.1 disk

  asked_block : length r.asked.block ≡ 512
  asked_block = rw r.of_the_drive.0 hb

  asked_page : page r.asked ≡ bytes
  asked_page = sym (reply_is r.asked r.form r.room r.sense r.answered asked_disk asked_block r.whole) ∙ r.shows

  asked_so : Asking r.asked r.form r.room r.sense r.answered asked_disk asked_block r.whole
  asked_so = asking r.asked r.form r.room r.sense r.answered asked_disk asked_block r.whole

  reply_written : Written (page89 false texts signature block) (field tag bytes)
  reply_written =
      rw (asked_page, r.its_tag, r.of_the_drive.0, r.of_the_drive.1, r.of_the_drive.2)
      at (own_written r.asked r.form r.room r.sense r.answered asked_disk asked_block r.whole)

  reply_right : Right (field tag bytes)
  reply_right = rw (asked_page, r.its_tag) at (own_right r.asked r.form r.room r.sense r.answered asked_disk asked_block r.whole)

  reply_passes : damaged block ≡ false
  reply_passes = rw r.of_the_drive.0 at asked_so.passes

  reply_texts : length texts ≡ 28
  reply_texts = rw r.of_the_drive.2 at asked_so.texts

  reply_signature : length signature ≡ 20
  reply_signature = rw r.of_the_drive.1 at asked_so.signature

-- What holds of the fields of two runs holds of both together.
each_of_two : {P : Field → Type 0} (fs gs : List Field) → ((f : Field) → Memᴰ f fs → P f) → ((f : Field) → Memᴰ f gs → P f) → (f : Field) → Memᴰ f (fs ++ gs) → P f
each_of_two fs gs a b f m = ⊎_elim (λ n. a f n) (λ n. b f n) (Memᴰ.append_cases fs m)

module _ (block signature texts : List ℕ) (present : ℕ → Bool) (replies : ℕ → List ℕ) (hb : length block ≡ 512) (disk : packet_drive signature ≡ false) (given : (tag : ℕ) → (present tag ≡ true) ⊎ (tag ≡ 0x89) → Reply block signature texts tag (replies tag)) where
  abbrev last : Reply block signature texts 0x89 (replies 0x89)
  last = given 0x89 (inr refl)

  abbrev P : List ℕ
  P = page89 false texts signature block

  is_89h : replies 0x89 ≡ P
  is_89h =
      let (ports, address, c, e) = reply_written last hb disk in
      e ∙ ours_is texts signature block (reply_texts last hb disk) (reply_signature last hb disk) hb ports address 0x89

  put_right : (tag : ℕ) → present tag ≡ true → Right (field tag (replies tag))
  put_right tag e = reply_right (given tag (inl e)) hb disk

  put_written : (tag : ℕ) (f : Field) → Memᴰ f (put present replies tag) → Written (replies 0x89) f
  put_written tag f m = by (present tag) refl m
    where
      by : (t : Bool) → present tag ≡ t → Memᴰ f (cond t (field tag (replies tag) ∷ []) []) → Written (replies 0x89) f
      by true e m = rw (Memᴰ.eq_of_singleton m, is_89h) (reply_written (given tag (inl e)) hb disk)
      by false e m = absurd (Memᴰ.not-nil m)

  abbrev before : List Field
  before = put present replies 0x00 ++ put present replies 0x01 ++ put present replies 0x80 ++ put present replies 0x83

  all_rising : Rising 0 (all before (replies 0x89))
  all_rising =
      simp append_assoc
      (put_first {least = 0x00} (present 0x00) (field 0x00 (replies 0x00)) (omega arith) (put_right 0x00)
      (put_first {least = 0x01} (present 0x01) (field 0x01 (replies 0x01)) (omega arith) (put_right 0x01)
      (put_first {least = 0x02} (present 0x80) (field 0x80 (replies 0x80)) (omega arith) (put_right 0x80)
      (put_first {least = 0x81} (present 0x83) (field 0x83 (replies 0x83)) (omega arith) (put_right 0x83)
      (put_last {least = 0x84} (field 0x89 (replies 0x89)) (omega arith) (reply_right last hb disk))))))

  all_written : (f : Field) → Memᴰ f (all before (replies 0x89)) → Written (replies 0x89) f
  all_written =
      each_of_two before (field 0x89 (replies 0x89) ∷ [])
      (each_of_two (put present replies 0x00 ++ put present replies 0x01 ++ put present replies 0x80) (put present replies 0x83)
      (each_of_two (put present replies 0x00 ++ put present replies 0x01) (put present replies 0x80)
      (each_of_two (put present replies 0x00) (put present replies 0x01) (put_written 0x00) (put_written 0x01))
      (put_written 0x80))
      (put_written 0x83))
      (λ f m. rw (Memᴰ.eq_of_singleton m, is_89h) (rw is_89h at (reply_written last hb disk)))

  own_accepted : check (own_capture present replies) ≡ accepted
  own_accepted =
      accepted_is
      (record {
        before = before;
        page89h = replies 0x89;
        judgeable = record {
          laid_out = record { all = refl; rising = all_rising };
          no_packet_drive = rw (is_89h, signature_back texts signature block (reply_texts last hb disk) (reply_signature last hb disk) hb) disk;
          passes = rw (is_89h, block_back texts signature block (reply_texts last hb disk) (reply_signature last hb disk) hb) (reply_passes last hb disk);
        };
        all_written = all_written;
      })

pub own_replies_accepted : OwnRepliesAccepted
own_replies_accepted = own_accepted
