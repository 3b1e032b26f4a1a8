-- What the check says of a capture is what is said of its fields: accepted where every field is the writer's, and else the first that is
-- not, with the furthest place over all choices of ports.
use mathlib.Core.Path.{◌≡◌, refl, sym, ap, ◌∙◌}
use mathlib.Core.Bool.{Bool, true, false, cond, not, and-false, true≢false}
use mathlib.Core.Logic.{◌⊎◌, inl, inr, ⊎_elim, ◌↔◌}
use mathlib.Core.List.Memᴰ
use mathlib.Core.List.{List, [], ◌∷◌, ◌++◌, Memᴰ}
use Prim.Native.Nat.{ℕ, ◌+◌, ◌≤◌, ◌<◌}
use native.Mathlib.Omega.{arith}
use lib.Dec.{eqb}
use lib.ListN.{length, get_or, length-drop}
use Rattle.checksum.specs.Checksum.{damaged}
use Rattle.identify.specs.Bytes.{equal}
use Rattle.identify.proofs.Bytes.{equal_of, equal_same}
use Rattle.port.specs.declared.Ports.{Ports}
use Rattle.port.specs.Ports.{relative_chosen, is_port, wrong_port}
use Rattle.page83_drive.specs.Descriptor.{drive_descriptor}
use Rattle.page83.specs.Page83.{page83}
use Rattle.pages.specs.Page.{standard, page00, page80, page89}
use Rattle.packet.specs.Packet.{packet_drive}
use Rattle.capture.specs.Capture.{Field, others, fields, information, holds, end}
use Rattle.capture.specs.Layout.{LaidOut, BrokenAt}
use Rattle.capture.proofs.LaidOut.{laid_fields, laid_page, laid_holds, holds_laid, broken_there, broken_fails, broken_ends}
use Rattle.capture.proofs.Laws.{length_information}
use Rattle.agreement.specs.Agreed.{agreed}
use Rattle.agreement.proofs.Laws.{agree_to, agrees, differ_there}
use Rattle.checker_drive.specs.Ports.{claimed_ports, claimed_address, claimed_page}
use Rattle.checker_drive.proofs.Furthest.{claimed_address_is, furthest, own_page_claimed}
use Rattle.checker.specs.declared.Checked.{Checked}
use Rattle.checker.specs.Check.{texts_of, signature_of, block_of, ours, expected, accepted, differs, refused, judged, check}
use Rattle.checker.specs.Judged.{Choice, Written, DifferAt, Furthest, Judgeable, all, Acceptable, AtFault, OfAPacketDrive, OfADamagedBlock}
use Rattle.checker.proofs.Judging.{broken, packet_drives, damaged_block_is, in_order}

-- How far two runs agree is where they differ.
differ_at : (s t : List ℕ) → DifferAt s t (agreed s t)
differ_at s t =
    let a = agrees s t in
    record { in_first = a.within_first; in_second = a.within_second; same_before = a.before; apart_there = differ_there s t }

agreed_at : {s t : List ℕ} {place : ℕ} → DifferAt s t place → place ≡ agreed s t
agreed_at {s} {t} {place} d = agree_to s t place (record { within_first = d.in_first; within_second = d.in_second; before = d.same_before }) d.apart_there

-- The ports that a field tells are a choice that the writer takes.
claimed_choice : (block bytes : List ℕ) → Choice (claimed_ports block bytes) (claimed_address block bytes)
unfolding claimed_ports wrong_port
claimed_choice block bytes =
    record {
      right_address = claimed_address_is block bytes;
      right_port = rw (by (eqb (get_or bytes (4 + length (drive_descriptor block) + 7) 0) 2)) (and-false (relative_chosen (claimed_ports block bytes)));
    }
  where
    by : (t : Bool) → not (is_port (cond t 2 1)) ≡ false
    by true = refl
    by false = refl

-- A tag for which the ports do not count, or that of page 83h.
by_tag : (page89h : List ℕ) (tag : ℕ) → ((p : Ports) (x : List ℕ) (q : Ports) (y : List ℕ) → ours page89h p x tag ≡ ours page89h q y tag) ⊎ ((p : Ports) (x : List ℕ) → ours page89h p x tag ≡ page83 (block_of page89h) p x)
unfolding ours
by_tag page89h tag = by (eqb tag 0x00) (eqb tag 0x01) (eqb tag 0x80) (eqb tag 0x83)
  where
    given : Bool → Bool → Bool → Bool → Ports → List ℕ → List ℕ
    given a b c d p x =
        cond a page00 (cond b (standard (block_of page89h)) (cond c (page80 (block_of page89h)) (cond d (page83 (block_of page89h) p x) (page89 false (texts_of page89h) (signature_of page89h) (block_of page89h)))))

    by : (a b c d : Bool) → ((p : Ports) (x : List ℕ) (q : Ports) (y : List ℕ) → given a b c d p x ≡ given a b c d q y) ⊎ ((p : Ports) (x : List ℕ) → given a b c d p x ≡ page83 (block_of page89h) p x)
    by true b c d = inl (λ p x q y. refl)
    by false true c d = inl (λ p x q y. refl)
    by false false true d = inl (λ p x q y. refl)
    by false false false true = inr (λ p x. refl)
    by false false false false = inl (λ p x q y. refl)

-- A field of which page 89h, with the block, tells what it is to be.
module _ (page89h : List ℕ) (h : length (block_of page89h) ≡ 512) (f : Field) where
  -- One that is the writer's with some choice of ports is so with the ports that it tells,
  written_expected : Written page89h f → f.bytes ≡ expected page89h f
  unfolding expected claimed_page
  written_expected (ports, address, c, e) =
      ⊎_elim
      (λ same. e ∙ same ports address _ _)
      (λ named.
      let page = e ∙ named ports address in
      page
      ∙ sym (own_page_claimed (block_of page89h) h ports address c.right_address c.right_port)
      ∙ ap (claimed_page (block_of page89h)) (sym page)
      ∙ sym (named _ _))
      (by_tag page89h f.tag)

  -- and the other way round.
  expected_written : f.bytes ≡ expected page89h f → Written page89h f
  unfolding expected
  expected_written e = (claimed_ports (block_of page89h) f.bytes, claimed_address (block_of page89h) f.bytes, claimed_choice (block_of page89h) f.bytes, e)

  -- With any choice it agrees no further than with these.
  no_further : (ports : Ports) (address : List ℕ) → Choice ports address → agreed f.bytes (ours page89h ports address f.tag) ≤ agreed f.bytes (expected page89h f)
  unfolding expected claimed_page
  no_further ports address c =
      ⊎_elim
      (λ same. rw (same ports address (claimed_ports (block_of page89h) f.bytes) (claimed_address (block_of page89h) f.bytes)) (omega arith))
      (λ named. rw (named ports address, named _ _) (furthest (block_of page89h) f.bytes h ports address c.right_address c.right_port))
      (by_tag page89h f.tag)

  -- So the place up to which it agrees with what it is held beside is the furthest, and no other is.
  furthest_place : Furthest page89h f (agreed f.bytes (expected page89h f))
  unfolding expected
  furthest_place =
      record {
        reached = (claimed_ports (block_of page89h) f.bytes, claimed_address (block_of page89h) f.bytes, claimed_choice (block_of page89h) f.bytes, differ_at f.bytes (expected page89h f));
        no_further = λ ports address other c d. rw (agreed_at d) (no_further ports address c);
      }

one_furthest : {page89h : List ℕ} {f : Field} {place other : ℕ} → Furthest page89h f place → Furthest page89h f other → place ≡ other
one_furthest {page89h} {f} {place} {other} a b =
    let below = b.no_further a.reached.0 a.reached.1 place a.reached.2 a.reached.3 in
    let above = a.no_further b.reached.0 b.reached.1 other b.reached.2 b.reached.3 in
    omega (arith, below, above)

-- Fields that are judged, each by what it is held beside.
module _ (page89h : List ℕ) (h : length (block_of page89h) ≡ 512) where
  accepts_written : (fs : List Field) → ((f : Field) → Memᴰ f fs → Written page89h f) → judged page89h fs ≡ accepted
  unfolding judged
  accepts_written [] w = refl
  accepts_written (f ∷ fs) w =
      rw (equal_of (written_expected page89h h f (w f (Memᴰ.head refl)))) (accepts_written fs (λ g m. w g (Memᴰ.tail m)))

  -- A field that is held beside another is no writer's.
  unequal : (f : Field) → (Written page89h f → ⊥) → equal f.bytes (expected page89h f) ≡ false
  unequal f n = by (equal f.bytes (expected page89h f)) refl
    where
      by : (t : Bool) → equal f.bytes (expected page89h f) ≡ t → t ≡ false
      by true e = absurd (n (expected_written page89h h f (equal_same _ _ e)))
      by false e = refl

  unwritten : (f : Field) → equal f.bytes (expected page89h f) ≡ false → Written page89h f → ⊥
  unwritten f e w = true≢false (sym (equal_of (written_expected page89h h f w)) ∙ e)

  -- The first at fault answers, whatever stands behind it.
  differs_at : (earlier : List Field) (f : Field) (later : List Field) → ((g : Field) → Memᴰ g earlier → Written page89h g) → (Written page89h f → ⊥) → judged page89h (earlier ++ (f ∷ later)) ≡ differs f.tag (agreed f.bytes (expected page89h f))
  unfolding judged
  differs_at [] f later w n = rw (unequal f n)
  differs_at (g ∷ earlier) f later w n =
      rw (equal_of (written_expected page89h h g (w g (Memᴰ.head refl)))) (differs_at earlier f later (λ x m. w x (Memᴰ.tail m)) n)

  -- And what fields that are judged answer tells which they are.
  data Judgement (fs : List Field) : Type 0 where
    all_written : judged page89h fs ≡ accepted → ((f : Field) → Memᴰ f fs → Written page89h f) → Judgement fs
    one_apart : (earlier : List Field) (f : Field) (later : List Field) → fs ≡ earlier ++ (f ∷ later) → ((g : Field) → Memᴰ g earlier → Written page89h g) → (Written page89h f → ⊥) → Judgement fs

  judgement : (fs : List Field) → Judgement fs
  unfolding judged
  judgement [] = all_written refl (λ f m. absurd (Memᴰ.not-nil m))
  judgement (f ∷ fs) = by (equal f.bytes (expected page89h f)) refl (judgement fs)
    where
      ahead : Written page89h f → (gs : List Field) → ((g : Field) → Memᴰ g gs → Written page89h g) → (g : Field) → Memᴰ g (f ∷ gs) → Written page89h g
      ahead w gs v g m = ⊎_elim (λ e. rw e w) (λ n. v g n) (Memᴰ.cases_cons m)

      by : (t : Bool) → equal f.bytes (expected page89h f) ≡ t → Judgement fs → Judgement (f ∷ fs)
      by false e j = one_apart [] f fs refl (λ g m. absurd (Memᴰ.not-nil m)) (unwritten f e)
      by true e (all_written a v) =
          let w = expected_written page89h h f (equal_same _ _ e) in
          all_written (rw e a) (ahead w fs v)
      by true e (one_apart earlier g later p v n) =
          let w = expected_written page89h h f (equal_same _ _ e) in
          one_apart (f ∷ earlier) g later (ap (λ (l : List Field). f ∷ l) p) (ahead w earlier v) n

-- A capture whose layout holds is checked by what it is laid out as.
module _ {capture : List ℕ} {before : List Field} {page89h : List ℕ} (l : LaidOut capture before page89h) where
  block_size : length (block_of page89h) ≡ 512
  block_size = omega (arith, length-drop 60 page89h, sym (ap length (laid_page l)) ∙ length_information capture (laid_holds l))

  pub packet_is : packet_drive (signature_of page89h) ≡ true → check capture ≡ refused 22 0
  packet_is p = packet_drives capture (laid_holds l) (rw (laid_page l) p)

  pub damaged_is : packet_drive (signature_of page89h) ≡ false → damaged (block_of page89h) ≡ true → check capture ≡ refused 18 0
  damaged_is p d = damaged_block_is capture (laid_holds l) (rw (laid_page l) p) (rw (laid_page l) d)

judged_is : {capture : List ℕ} {before : List Field} {page89h : List ℕ} → Judgeable capture before page89h → check capture ≡ judged page89h (all before page89h)
judged_is {capture} j =
    let l = j.laid_out in
    in_order capture (laid_holds l) (rw (laid_page l) j.no_packet_drive) (rw (laid_page l) j.passes) ∙ rw (laid_page l, laid_fields l)

pub accepted_is : {capture : List ℕ} → Acceptable capture → check capture ≡ accepted
accepted_is a = judged_is a.judgeable ∙ accepts_written a.page89h (block_size a.judgeable.laid_out) (all a.before a.page89h) a.all_written

pub differs_is : {capture : List ℕ} {tag place : ℕ} → AtFault capture tag place → check capture ≡ differs tag place
differs_is {capture} {tag} {place} w =
    let block = block_size w.judgeable.laid_out in
    judged_is w.judgeable
    ∙ ap (judged w.page89h) w.parts
    ∙ differs_at w.page89h block w.earlier w.at_fault w.later w.earlier_written w.not_written
    ∙ rw (one_furthest (furthest_place w.page89h block w.at_fault) w.its_place, w.its_tag)

-- Of a capture of bytes it says one of these, and what it says is so.
module _ (capture : List ℕ) (b : (k : ℕ) → get_or capture k 0 < 0x100) where
  data Says : Type 0 where
    says_accepted : Acceptable capture → Says
    says_differs : (tag place : ℕ) → AtFault capture tag place → Says
    says_broken : (place : ℕ) → BrokenAt capture place → Says
    says_packet : OfAPacketDrive capture → Says
    says_damaged : OfADamagedBlock capture → Says

  judging : (before : List Field) (page89h : List ℕ) → Judgeable capture before page89h → Says
  judging before page89h j = by (judgement page89h block (all before page89h))
    where
      block : length (block_of page89h) ≡ 512
      block = block_size j.laid_out

      by : Judgement page89h block (all before page89h) → Says
      by (all_written e w) = says_accepted (record { before = before; page89h = page89h; judgeable = j; all_written = w })
      by (one_apart earlier f later p v n) =
          says_differs f.tag (agreed f.bytes (expected page89h f))
          (record {
            before = before;
            page89h = page89h;
            judgeable = j;
            earlier = earlier;
            at_fault = f;
            later = later;
            parts = p;
            earlier_written = v;
            not_written = n;
            its_tag = refl;
            its_place = furthest_place page89h block f;
          })

  says : Says
  says = by (holds capture) refl (packet_drive (signature_of page)) refl (damaged (block_of page)) refl
    where
      page : List ℕ
      page = information capture

      by : (h : Bool) → holds capture ≡ h → (p : Bool) → packet_drive (signature_of page) ≡ p → (d : Bool) → damaged (block_of page) ≡ d → Says
      by false h p e d f = says_broken (end capture) (broken_there capture b h)
      by true h true e d f = says_packet (fields others capture, page, holds_laid capture b h, e)
      by true h false e true f = says_damaged (fields others capture, page, holds_laid capture b h, e, f)
      by true h false e false f = judging (fields others capture) page (record { laid_out = holds_laid capture b h; no_packet_drive = e; passes = f })

  broken_is : {place : ℕ} → BrokenAt capture place → check capture ≡ refused 21 place
  broken_is w = broken capture (broken_fails b w) ∙ ap (refused 21) (broken_ends b w)

  -- What it says, as it comes back.
  answer : Says → Checked
  answer (says_accepted a) = accepted
  answer (says_differs tag place w) = differs tag place
  answer (says_broken place w) = refused 21 place
  answer (says_packet w) = refused 22 0
  answer (says_damaged w) = refused 18 0

  answered : (s : Says) → check capture ≡ answer s
  unfolding answer
  answered (says_accepted a) = accepted_is a
  answered (says_differs tag place w) = differs_is w
  answered (says_broken place w) = broken_is w
  answered (says_packet (before, page, l, e)) = packet_is l e
  answered (says_damaged (before, page, l, e, f)) = damaged_is l e f

  -- So each answer is given for nothing else.
  only_accepted : (s : Says) → answer s ≡ accepted → Acceptable capture
  unfolding answer
  only_accepted (says_accepted a) e = a
  only_accepted (says_differs tag place w) e = absurd (omega (arith, ap (λ (c : Checked). c.accepted) e))
  only_accepted (says_broken place w) e = absurd (omega (arith, ap (λ (c : Checked). c.number) e))
  only_accepted (says_packet w) e = absurd (omega (arith, ap (λ (c : Checked). c.number) e))
  only_accepted (says_damaged w) e = absurd (omega (arith, ap (λ (c : Checked). c.number) e))

  only_differs : (s : Says) (tag place : ℕ) → answer s ≡ differs tag place → AtFault capture tag place
  unfolding answer
  only_differs (says_accepted a) tag place e = absurd (omega (arith, ap (λ (c : Checked). c.accepted) e))
  only_differs (says_differs t p w) tag place e = rw (ap (λ (c : Checked). c.tag) e, ap (λ (c : Checked). c.place) e) at w
  only_differs (says_broken p w) tag place e = absurd (omega (arith, ap (λ (c : Checked). c.number) e))
  only_differs (says_packet w) tag place e = absurd (omega (arith, ap (λ (c : Checked). c.number) e))
  only_differs (says_damaged w) tag place e = absurd (omega (arith, ap (λ (c : Checked). c.number) e))

  only_broken : (s : Says) (place : ℕ) → answer s ≡ refused 21 place → BrokenAt capture place
  unfolding answer
  only_broken (says_accepted a) place e = absurd (omega (arith, ap (λ (c : Checked). c.number) e))
  only_broken (says_differs t p w) place e = absurd (omega (arith, ap (λ (c : Checked). c.number) e))
  only_broken (says_broken p w) place e = rw (ap (λ (c : Checked). c.place) e) at w
  only_broken (says_packet w) place e = absurd (omega (arith, ap (λ (c : Checked). c.number) e))
  only_broken (says_damaged w) place e = absurd (omega (arith, ap (λ (c : Checked). c.number) e))

  only_packet : (s : Says) → answer s ≡ refused 22 0 → OfAPacketDrive capture
  unfolding answer
  only_packet (says_accepted a) e = absurd (omega (arith, ap (λ (c : Checked). c.number) e))
  only_packet (says_differs t p w) e = absurd (omega (arith, ap (λ (c : Checked). c.number) e))
  only_packet (says_broken p w) e = absurd (omega (arith, ap (λ (c : Checked). c.number) e))
  only_packet (says_packet w) e = w
  only_packet (says_damaged w) e = absurd (omega (arith, ap (λ (c : Checked). c.number) e))

  only_damaged : (s : Says) → answer s ≡ refused 18 0 → OfADamagedBlock capture
  unfolding answer
  only_damaged (says_accepted a) e = absurd (omega (arith, ap (λ (c : Checked). c.number) e))
  only_damaged (says_differs t p w) e = absurd (omega (arith, ap (λ (c : Checked). c.number) e))
  only_damaged (says_broken p w) e = absurd (omega (arith, ap (λ (c : Checked). c.number) e))
  only_damaged (says_packet w) e = absurd (omega (arith, ap (λ (c : Checked). c.number) e))
  only_damaged (says_damaged w) e = w

  pub accepts : (check capture ≡ accepted) ↔ Acceptable capture
  accepts = (λ e. only_accepted says (sym (answered says) ∙ e), accepted_is)

  pub names_the_fault : (tag place : ℕ) → (check capture ≡ differs tag place) ↔ AtFault capture tag place
  names_the_fault tag place = (λ e. only_differs says tag place (sym (answered says) ∙ e), differs_is)

  pub broken_layout : (place : ℕ) → (check capture ≡ refused 21 place) ↔ BrokenAt capture place
  broken_layout place = (λ e. only_broken says place (sym (answered says) ∙ e), broken_is)

  pub packet_drive_is : (check capture ≡ refused 22 0) ↔ OfAPacketDrive capture
  packet_drive_is = (λ e. only_packet says (sym (answered says) ∙ e), λ w. packet_is w.2 w.3)

  pub damaged_drive : (check capture ≡ refused 18 0) ↔ OfADamagedBlock capture
  damaged_drive = (λ e. only_damaged says (sym (answered says) ∙ e), λ w. damaged_is w.2 w.3 w.4)

  pub one_of_these : (check capture ≡ accepted) ⊎ ((tag : ℕ) × (place : ℕ) × (check capture ≡ differs tag place)) ⊎ ((place : ℕ) × (check capture ≡ refused 21 place)) ⊎ (check capture ≡ refused 22 0) ⊎ (check capture ≡ refused 18 0)
  unfolding answer
  one_of_these = by says (answered says)
    where
      by : (s : Says) → check capture ≡ answer s → (check capture ≡ accepted) ⊎ ((tag : ℕ) × (place : ℕ) × (check capture ≡ differs tag place)) ⊎ ((place : ℕ) × (check capture ≡ refused 21 place)) ⊎ (check capture ≡ refused 22 0) ⊎ (check capture ≡ refused 18 0)
      by (says_accepted a) e = inl e
      by (says_differs tag place w) e = inr (inl (tag, place, e))
      by (says_broken place w) e = inr (inr (inl (place, e)))
      by (says_packet w) e = inr (inr (inr (inl e)))
      by (says_damaged w) e = inr (inr (inr (inr e)))
