-- Laws of fields that are judged one behind the other, and of the walk that does so.
use mathlib.Core.Path.{◌≡◌, refl, sym, ap, ◌∙◌}
use mathlib.Core.Bool.{Bool, true, false, cond, true≢false}
use mathlib.Core.List.{List, [], ◌∷◌, ◌++◌}
use Prim.Native.Nat.{ℕ, ◌+◌, ◌≤◌, ◌<◌}
use native.Mathlib.Nat.{add-zero, zero-add}
use native.Mathlib.Omega.{arith}
use lib.Dec.{eqb}
use lib.ListN.{length, get_or, drop, length-drop}
use Rattle.identify.specs.Bytes.{equal}
use Rattle.checksum.specs.Checksum.{damaged}
use Rattle.packet.specs.Packet.{packet_drive}
use Rattle.capture.specs.Capture.{Field, field, others, told, content, stands, taken, fields, fields_of, information, holds, end}
use Rattle.capture.proofs.Laws.{all_there, turn_stands, turn_lacks, no_turn}
use Rattle.agreement.specs.declared.Held.{Held}
use Rattle.agreement.specs.Agreed.{agreed}
use Rattle.agreement.specs.Helpers.{beside}
use Rattle.checker.specs.Check.{signature_of, block_of, expected, accepted, differs, refused, judged, refusal_of, check}
use Rattle.checker.specs.Helpers.{front_beside}

-- A field that is what it is to be is passed over; another answers.
module _ (information : List ℕ) (f : Field) (fs : List Field) where
  pub passed : equal f.bytes (expected information f) ≡ true → judged information (f ∷ fs) ≡ judged information fs
  unfolding judged
  passed e = rw e

  pub fault : equal f.bytes (expected information f) ≡ false → judged information (f ∷ fs) ≡ differs f.tag (agreed f.bytes (expected information f))
  unfolding judged
  fault e = rw e

-- Fields in two runs: where the first is accepted, the second answers.
pub two_runs : (information : List ℕ) (fs gs : List Field) → judged information (fs ++ gs) ≡ cond (eqb (judged information fs).accepted 0) (judged information fs) (judged information gs)
unfolding judged
two_runs information [] gs = refl
two_runs information (f ∷ fs) gs = by (equal f.bytes (expected information f)) (two_runs information fs gs)
  where
    by : (b : Bool) → judged information (fs ++ gs) ≡ cond (eqb (judged information fs).accepted 0) (judged information fs) (judged information gs) → cond b (judged information (fs ++ gs)) (differs f.tag (agreed f.bytes (expected information f))) ≡ cond (eqb (cond b (judged information fs) (differs f.tag (agreed f.bytes (expected information f)))).accepted 0) (cond b (judged information fs) (differs f.tag (agreed f.bytes (expected information f)))) (judged information gs)
    by true r = r
    by false r = refl

-- Fields that are judged are not refused.
pub judged_zero : (information : List ℕ) (fs : List Field) → (judged information fs).number ≡ 0
unfolding judged
judged_zero information [] = refl
judged_zero information (f ∷ fs) = by (equal f.bytes (expected information f)) (judged_zero information fs)
  where
    by : (b : Bool) → (judged information fs).number ≡ 0 → (cond b (judged information fs) (differs f.tag (agreed f.bytes (expected information f)))).number ≡ 0
    by true z = z
    by false z = refl

-- A walk over the tags that holds each field beside what it is to be, before its turn k.
pub record Judging (information capture : List ℕ) (at k : ℕ) : Type 0 where
  pub upto : at ≤ length capture
  pub left : judged information (fields (drop k others) (drop at capture)) ≡ judged information (fields others capture)

pub none_judged : (information capture : List ℕ) → Judging information capture 0 0
none_judged information capture = record { upto = omega arith; left = refl }

module _ {information capture : List ℕ} {at k : ℕ} (w : Judging information capture at k) where
  pub judge_on : k < 4 → (front_beside information (get_or others k 0) (drop at capture)).same ≡ true → Judging information capture (at + taken (get_or others k 0) (drop at capture)) (k + 1)
  unfolding front_beside beside
  judge_on h = by (stands (get_or others k 0) (drop at capture)) refl
    where
      by : (b : Bool) → stands (get_or others k 0) (drop at capture) ≡ b → (cond b (beside (content (drop at capture)) (expected information (field (get_or others k 0) (content (drop at capture))))) (record { same = true; place = 0 })).same ≡ true → Judging information capture (at + cond b (3 + told (drop at capture)) 0) (k + 1)
      by true e s =
          let there = all_there (get_or others k 0) (drop at capture) e in
          let l = length-drop at capture in
          let next = fields (drop (k + 1) others) (drop (at + (3 + told (drop at capture))) capture) in
          record { upto = omega (arith, w.upto); left = sym (passed information (field (get_or others k 0) (content (drop at capture))) next s) ∙ rw (turn_stands capture at k h e) at w.left }
      by false e s = rw add-zero (record { upto = w.upto; left = rw (turn_lacks capture at k h e) at w.left })

  pub judge_stop : k < 4 → (front_beside information (get_or others k 0) (drop at capture)).same ≡ false → differs (get_or others k 0) (front_beside information (get_or others k 0) (drop at capture)).place ≡ judged information (fields others capture)
  unfolding front_beside beside
  judge_stop h = by (stands (get_or others k 0) (drop at capture)) refl
    where
      by : (b : Bool) → stands (get_or others k 0) (drop at capture) ≡ b → (cond b (beside (content (drop at capture)) (expected information (field (get_or others k 0) (content (drop at capture))))) (record { same = true; place = 0 })).same ≡ false → differs (get_or others k 0) (cond b (beside (content (drop at capture)) (expected information (field (get_or others k 0) (content (drop at capture))))) (record { same = true; place = 0 })).place ≡ judged information (fields others capture)
      by true e s =
          let next = fields (drop (k + 1) others) (drop (at + (3 + told (drop at capture))) capture) in
          sym (fault information (field (get_or others k 0) (content (drop at capture))) next s) ∙ rw (turn_stands capture at k h e) at w.left
      by false e s = absurd (true≢false s)

  pub judge_end : 4 ≤ k → accepted ≡ judged information (fields others capture)
  unfolding judged
  judge_end h = rw (no_turn capture at k h) at w.left

-- The same of a field that is held beside what it is to be, and of the place behind it.
module _ {information capture : List ℕ} {at k : ℕ} (w : Judging information capture at k) (h : k < 4) {held : Held} (e : held ≡ front_beside information (get_or others k 0) (drop at capture)) where
  pub judge_next : held.same ≡ true → {next : ℕ} → next ≡ at + taken (get_or others k 0) (drop at capture) → Judging information capture next (k + 1)
  judge_next s n = rw n (judge_on w h (ap (λ (x : Held). x.same) (sym e) ∙ s))

  pub judge_fault : held.same ≡ false → differs (get_or others k 0) held.place ≡ judged information (fields others capture)
  judge_fault s = rw e (judge_stop w h (ap (λ (x : Held). x.same) (sym e) ∙ s))

-- The first stands where the capture starts.
pub judge_first : (information capture : List ℕ) {held : Held} → held ≡ front_beside information 0x00 capture → held.same ≡ true → {next : ℕ} → next ≡ taken 0x00 capture → Judging information capture next 1
judge_first information capture e s n = judge_next (none_judged information capture) (omega arith) e s (n ∙ sym (zero-add (taken 0x00 capture)))

-- The check by the first refusal that applies, and where none does.
module _ (capture : List ℕ) where
  pub broken : holds capture ≡ false → check capture ≡ refused 21 (end capture)
  unfolding check refusal_of
  broken h = rw h

  pub packet_drives : holds capture ≡ true → packet_drive (signature_of (information capture)) ≡ true → check capture ≡ refused 22 0
  unfolding check refusal_of
  packet_drives h p = rw (h, p)

  pub damaged_block_is : holds capture ≡ true → packet_drive (signature_of (information capture)) ≡ false → damaged (block_of (information capture)) ≡ true → check capture ≡ refused 18 0
  unfolding check refusal_of
  damaged_block_is h p d = rw (h, p, d)

  pub in_order : holds capture ≡ true → packet_drive (signature_of (information capture)) ≡ false → damaged (block_of (information capture)) ≡ false → check capture ≡ judged (information capture) (fields others capture ++ (field 0x89 (information capture) ∷ []))
  unfolding check refusal_of fields_of
  in_order h p d = rw (h, p, d)
