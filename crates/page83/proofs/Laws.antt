-- Laws of page 83h: its size, the page by its form and grown by ports, and what the writer comes to.
use mathlib.Core.Path.{◌≡◌, refl, sym, ap, ◌∙◌}
use mathlib.Core.Bool.{true, false}
use mathlib.Core.List.{List, [], ◌∷◌, ◌++◌}
use Prim.Native.Nat.{ℕ, ◌+◌, ◌≤◌, ◌<◌}
use native.Mathlib.Omega.{arith}
use lib.ListN.{length, set, length-append}
use borrow.Author.Tests.{eq-eqb, lt-ltb, le-ltb}
use Rattle.room.specs.Room.{written, Wrote}
use Rattle.room.proofs.Laws.{length_written, written_front}
use Rattle.checksum.specs.Checksum.{damaged}
use Rattle.identify.specs.Block.{serial, model, name}
use Rattle.texts.specs.Text.{turned, spaced}
use Rattle.identify.specs.Names.{carries_name}
use Rattle.port.specs.declared.Ports.{Ports}
use Rattle.port.specs.Ports.{ports_part, wrong_address, wrong_port}
use Rattle.port.proofs.Laws.{length_ports}
use Rattle.page83_drive.specs.Descriptor.{head, name_descriptor, text_descriptor, drive_descriptor}
use Rattle.page83_drive.proofs.Laws.{named_drive, unnamed_drive, length_named, length_unnamed, length_drive, named_end, unnamed_end}
use Rattle.page83.specs.Page83.{page83, refusal_of, outcome, write}
use Rattle.port.specs.Helpers.{ports_size}
use Rattle.page83.specs.Helpers.{page_size, Grows}

-- The length in a page's head, put again.
again : (before drive : List ℕ) (n m : ℕ) → 4 ≤ length before → set (written before 0 (head n ++ drive)) 3 m ≡ written before 0 (head m ++ drive)
again (a ∷ b ∷ c ∷ d ∷ rest) drive n m h =
    ap (λ (l : List ℕ). set l 3 m) (written_front (a ∷ b ∷ c ∷ d ∷ rest) (head n ++ drive)) ∙ sym (written_front (a ∷ b ∷ c ∷ d ∷ rest) (head m ++ drive))
again [] drive n m h = absurd (omega arith)
again (a ∷ []) drive n m h = absurd (omega arith)
again (a ∷ b ∷ []) drive n m h = absurd (omega arith)
again (a ∷ b ∷ c ∷ []) drive n m h = absurd (omega arith)

pub head_again : {before drive room after : List ℕ} {n m : ℕ} → 4 ≤ length room → Wrote before 0 (head n ++ drive) room → Wrote room 3 (m ∷ []) after → Wrote before 0 (head m ++ drive) after
head_again {before} {drive} {room} {n = n} {m} h w x =
    let l : length room ≡ length before = ap length w.leaves ∙ length_written before 0 (head n ++ drive) in
    record { leaves = x.leaves ∙ ap (λ (r : List ℕ). set r 3 m) w.leaves ∙ again before drive n m (omega (arith, l, h)) }

-- A page without ports, of n bytes behind its head, that got them.
module _ (ports : Ports) (address : List ℕ) where
  grown : {before drive room after : List ℕ} {n end behind : ℕ} → length drive ≡ n → end ≡ 4 + n → behind ≡ n + ports_size ports → Wrote before 0 (head n ++ drive) room → Grows ports address end behind room after → Wrote before 0 (head behind ++ drive ++ ports_part ports address) after
  grown {before} {drive} l e b w grows = grows before drive (rw l e) (rw l b) (rw l w)

-- The page's size, and the page by that of its parts.
module _ (block : List ℕ) (ports : Ports) (address : List ℕ) (h : length block ≡ 512) (g : wrong_address ports address ≡ false) where
  pub page_size_is : length (page83 block ports address) ≡ page_size block ports
  unfolding page83
  page_size_is = omega (arith, length-append (drive_descriptor block) (ports_part ports address), length_drive block h, length_ports ports address g)

  pub named_or_not : page83 block ports address ≡ head (length (drive_descriptor block) + ports_size ports) ++ drive_descriptor block ++ ports_part ports address
  unfolding page83
  named_or_not =
      let l : length (drive_descriptor block ++ ports_part ports address) ≡ length (drive_descriptor block) + ports_size ports =
      length-append (drive_descriptor block) (ports_part ports address) ∙ ap (λ (n : ℕ). length (drive_descriptor block) + n) (length_ports ports address g) in
      ap (λ (n : ℕ). head n ++ drive_descriptor block ++ ports_part ports address) l

  -- The page, and its size, by whether the block carries a name.
  pub named_page : carries_name block ≡ true → page83 block ports address ≡ head (12 + ports_size ports) ++ name_descriptor (turned (name block)) ++ ports_part ports address
  named_page e = named_or_not ∙ rw (length_named block h e, named_drive block e)

  pub unnamed_page : carries_name block ≡ false → page83 block ports address ≡ head (72 + ports_size ports) ++ text_descriptor (spaced (turned (model block))) (spaced (turned (serial block))) ++ ports_part ports address
  unnamed_page e = named_or_not ∙ rw (length_unnamed block h e, unnamed_drive block e)

  -- The page, where its part without ports was written first.
  pub grown_name : carries_name block ≡ true → {behind : ℕ} → behind ≡ 12 + ports_size ports → {before room after : List ℕ} → Wrote before 0 (head 12 ++ name_descriptor (turned (name block))) room → Grows ports address 16 behind room after → Wrote before 0 (page83 block ports address) after
  grown_name e b w grows =
      let l : length (name_descriptor (turned (name block))) ≡ 12 = omega (arith, named_end block h) in
      rw (named_page e, ← b) (grown ports address l refl b w grows)

  pub grown_texts : carries_name block ≡ false → {behind : ℕ} → behind ≡ 72 + ports_size ports → {before room after : List ℕ} → Wrote before 0 (head 72 ++ text_descriptor (spaced (turned (model block))) (spaced (turned (serial block)))) room → Grows ports address 76 behind room after → Wrote before 0 (page83 block ports address) after
  grown_texts e b w grows =
      let l : length (text_descriptor (spaced (turned (model block))) (spaced (turned (serial block)))) ≡ 72 = omega (arith, unnamed_end block h) in
      rw (unnamed_page e, ← b) (grown ports address l refl b w grows)

-- The writer of a block that passes, with ports that it takes, by how much room there is for a page of n bytes.
module _ (block : List ℕ) (ports : Ports) (address room : List ℕ) (h : length block ≡ 512) (a : wrong_address ports address ≡ false) (d : damaged block ≡ false) (p : wrong_port ports ≡ false) {n : ℕ} (l : length (page83 block ports address) ≡ n) where
  pub too_little : length room < n → write block ports address room ≡ outcome (record { number = 8; count = 0 }) room
  unfolding refusal_of write
  too_little s = rw (eq-eqb _ _ h, a, d, p, l, lt-ltb _ _ s)

  pub enough : n ≤ length room → write block ports address room ≡ outcome (record { number = 0; count = n }) (written room 0 (page83 block ports address))
  unfolding refusal_of write
  enough s = rw (eq-eqb _ _ h, a, d, p, l, le-ltb _ _ s)
