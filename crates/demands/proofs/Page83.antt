-- Page 83h, written and read (demand 2), and when the pages of two blocks are equal (demand 3).
use mathlib.Core.Path.{◌≡◌, refl, sym, ap, ◌∙◌}
use mathlib.Core.Bool.{Bool, true, false, cond, not, ◌&&◌, ◌||◌, and-eq-true_iff, and-false, or-true, false≢true}
use mathlib.Core.Logic.{◌⊎◌, inl, inr, ◌↔◌}
use mathlib.Core.List.{List, [], ◌∷◌, ◌++◌, append_assoc, map-append}
use Prim.Native.Nat.{ℕ, zero, suc, ◌+◌, ◌*◌, ◌-◌, ◌≤◌}
use native.Mathlib.Omega.{arith}
use lib.Dec.{eqb, leb, eqb-suc-zero}
use lib.ListN.{length, get_or, take, drop, replicate, length-append, length-take, length-drop, length-replicate, take-append-drop}
use lib.Seq.{take_at, drop_at, drop-drop, take-add, get_or-append-add}
use borrow.Author.Tests.{eq-eqb, eqb-true, le-ltb, ltb-false, le-leb, leb-true, not-false}
use Rattle.rules.proofs.First.{silent, neither}
use Rattle.room.specs.Room.{written}
use Rattle.checksum.specs.Checksum.{damaged}
use Rattle.checksum.proofs.Laws.{unsigned_passes}
use Rattle.identify.specs.Bytes.{Bytes, no_more, more, equal}
use Rattle.identify.specs.Block.{words, serial, model, name}
use Rattle.texts.specs.Text.{turned, space, spaced}
use Rattle.identify.specs.Names.{some_bit, says_named, carries_name}
use Rattle.drive.specs.Drive.{same_drive}
use Rattle.identify.proofs.Block.{length_name}
use Rattle.identify.proofs.Words.{field_word}
use Rattle.texts.proofs.Text.{length_turned}
use Rattle.laws.proofs.Laws.{turned_twice, turned_injective, turned_spaced}
use Rattle.identify.proofs.Bytes.{equal_of, equal_same}
use Rattle.identify.proofs.Names.{named_some_bit, said_named}
use Rattle.drive.proofs.Drive.{OneName, OneText, same_drive_means, same_drive_when}
use Rattle.port.specs.declared.Ports.{Ports}
use Rattle.port.specs.Ports.{ports_part, wrong_address, wrong_port}
use Rattle.page83_drive.specs.Descriptor.{head, name_descriptor, text_descriptor, drive_descriptor}
use Rattle.page83.specs.Page83 as Page83
use Rattle.page83.specs.Page83.{page83, checks, refusal_of, Outcome, write}
use Rattle.page83_reader.specs.declared.Name.{Name}
use Rattle.page83_reader.specs.Reader as Reader
use Rattle.page83_reader.specs.Reader.{no_zero, headed, names_drive, tells_texts, tells_ports, ports_in, address_in, in_sixty, told, read}
use Rattle.room.proofs.Laws.{front}
use Rattle.page83_drive.proofs.Laws.{named_drive, unnamed_drive, length_named, length_unnamed, length_model_text, length_serial_text}
use Rattle.demands.specs.Promises.{left, name_of, ReadsBack, AcceptedIsWritten, Writable, WriterAccepts, first_descriptor, SamePorts, TellsApart, PagesOfTheWriter}
use Rattle.demands.proofs.Refusals.{not_refused}
use Rattle.demands.proofs.Ports.{starts_with, tells_back, ports_back, address_back, address_right, port_right, ports_again, same_ports_same_part, same_part_same_ports}

-- Turning makes no bit and loses none.
or_swap : (p q r : Bool) → (p || (q || r)) ≡ (q || (p || r))
or_swap true q r = sym (or-true q)
or_swap false q r = refl

some_bit_turned : (s : List ℕ) → some_bit (turned s) ≡ some_bit s
unfolding turned some_bit
some_bit_turned [] = refl
some_bit_turned (a ∷ []) = refl
some_bit_turned (a ∷ b ∷ s) = rw (some_bit_turned s) (or_swap (not (eqb b 0)) (not (eqb a 0)) (some_bit s))

-- A text with its zero bytes as spaces has none, and a text that has none stays as it is.
no_zero_spaced : (s : List ℕ) → no_zero (spaced s) ≡ true
unfolding no_zero
no_zero_spaced [] = refl
no_zero_spaced (zero ∷ s) = no_zero_spaced s
no_zero_spaced (suc b ∷ s) = rw (eqb-suc-zero b, eqb-suc-zero b) (no_zero_spaced s)

spaced_no_zero : (s : List ℕ) → no_zero s ≡ true → spaced s ≡ s
unfolding no_zero
spaced_no_zero [] h = refl
spaced_no_zero (zero ∷ s) h = absurd (false≢true h)
spaced_no_zero (suc b ∷ s) h = rw (eqb-suc-zero b, spaced_no_zero s (rw (eqb-suc-zero b) at h))

-- Each form as it is read, with ports behind it.
abbrev given : ℕ → List ℕ → List ℕ → Name
given form bytes ports = record { number = 0; form = form; name = in_sixty bytes; ports = ports_in ports; address = address_in ports }

-- A head that tells the size of what is behind it.
headed_is : (behind : List ℕ) → headed (head (length behind) ++ behind) ≡ true
headed_is behind = equal_of (ap head {x = length behind} {y = length (head (length behind) ++ behind) - 4} (omega arith))

module _ (bytes ports : List ℕ) (t : tells_ports ports ≡ true) where
  read_name : length bytes ≡ 8 → some_bit bytes ≡ true → read (head (length (name_descriptor bytes ++ ports)) ++ name_descriptor bytes ++ ports) ≡ given 1 bytes ports
  unfolding read told equal
  read_name l h =
      let front = take_at bytes ports 8 l in
      let rest = drop_at bytes ports 8 l in
      let long : 16 ≤ length (head 0 ++ name_descriptor (bytes ++ ports)) = omega (arith, l, length-append bytes ports) in
      rw (headed_is (name_descriptor bytes ++ ports), le-leb 16 _ long, front, h, rest, t)

  read_texts : length bytes ≡ 60 → no_zero bytes ≡ true → read (head (length (text_descriptor [] bytes ++ ports)) ++ text_descriptor [] bytes ++ ports) ≡ given 2 bytes ports
  unfolding read told equal
  read_texts l h =
      let front = take_at bytes ports 60 l in
      let rest = drop_at bytes ports 60 l in
      let long : 76 ≤ length (head 0 ++ text_descriptor [] (bytes ++ ports)) = omega (arith, l, length-append bytes ports) in
      rw (headed_is (text_descriptor [] bytes ++ ports), and-false, le-leb 76 _ long, front, h, rest, t)

-- What has passed the reader's test of a form: a page of at least n bytes, the head of its first descriptor, k bytes from byte 4 on, and
-- what is asked of the bytes behind.
passed : (n k : ℕ) (first page : List ℕ) (asked : Bool) → (leb n (length page) && equal (take k (drop 4 page)) first && asked) ≡ true → (n ≤ length page) × (take k (drop 4 page) ≡ first) × (asked ≡ true)
passed n k first page asked h =
    let w = (and-eq-true_iff _ asked).0 h in
    let v = (and-eq-true_iff _ _).0 w.0 in
    (leb-true n (length page) v.0, equal_same (take k (drop 4 page)) first v.1, w.1)

module _ (block : List ℕ) (ports : Ports) (address : List ℕ) (l : length block ≡ 512) (a : wrong_address ports address ≡ false) (p : wrong_port ports ≡ false) where
  abbrev behind : List ℕ
  behind = ports_part ports address

  -- The page of a drive that carries a name is read as its name and the ports,
  reads_back_name : carries_name block ≡ true → read (page83 block ports address) ≡ given 1 (turned (name block)) behind
  unfolding page83
  reads_back_name h =
      rw (named_drive block h)
      (read_name (turned (name block)) behind (tells_back ports address a p) (length_turned (name block) ∙ length_name block l) (some_bit_turned (name block) ∙ named_some_bit block h))

  -- and that of a drive that carries none as its model and its serial number, and the ports.
  reads_back_texts : carries_name block ≡ false → read (page83 block ports address) ≡ given 2 (spaced (turned (model block)) ++ spaced (turned (serial block))) behind
  unfolding page83
  reads_back_texts h =
      let m = turned (model block) in
      let s = turned (serial block) in
      rw (unnamed_drive block h)
      (read_texts (spaced m ++ spaced s) behind (tells_back ports address a p) (length-append (spaced m) (spaced s) ∙ omega (arith, length_model_text block l, length_serial_text block l))
      (ap no_zero (sym (map-append space m s)) ∙ no_zero_spaced (m ++ s)))

  reads_name : read (page83 block ports address) ≡ name_of block ports address
  reads_name = by (carries_name block) refl
    where
      by : (b : Bool) → carries_name block ≡ b → read (page83 block ports address) ≡ name_of block ports address
      by true h = reads_back_name h ∙ rw (h, ports_back ports address a p, address_back ports address a p)
      by false h = reads_back_texts h ∙ rw (h, ports_back ports address a p, address_back ports address a p)

-- What the writer was lent where it is not refused, and what it leaves then: the page.
module _ (block : List ℕ) (ports : Ports) (address room : List ℕ) where
  abbrev accepted : Outcome
  accepted = Page83.outcome (record { number = 0; count = length (page83 block ports address) }) (written room 0 (page83 block ports address))

  abbrev refused : ℕ → Outcome
  refused number = Page83.outcome (record { number = number; count = 0 }) room

  fits : (write block ports address room).written.number ≡ 0 → Writable block ports address room
  unfolding write refusal_of
  fits e =
      let z = not_refused (λ (o : Outcome). o.written.number) refused accepted (refusal_of block ports address (length room)) refl e in
      let c = silent (checks block ports address (length room)) refl z in
      let sizes = neither (not (eqb (length block) 512)) (wrong_address ports address) c.0 in
      record {
        whole = eqb-true _ _ (not-false _ sizes.0);
        passes = c.1.0;
        right_address = sizes.1;
        right_port = c.1.1.0;
        enough = ltb-false _ _ c.1.1.1.0;
      }

  write_is : Writable block ports address room → write block ports address room ≡ accepted
  unfolding write refusal_of
  write_is f = rw (eq-eqb _ _ f.whole, f.right_address, f.passes, f.right_port, le-ltb _ _ f.enough)

  left_is : Writable block ports address room → left (write block ports address room) ≡ page83 block ports address
  left_is f = ap left (write_is f) ∙ front room (page83 block ports address) f.enough

pub writer_accepts : WriterAccepts
writer_accepts block ports address room =
    (fits block ports address room, λ f. ap (λ (o : Outcome). o.written.number) (write_is block ports address room f))

pub reads_back : ReadsBack
reads_back block ports address room e =
    let f = fits block ports address room e in
    ap read (left_is block ports address room f) ∙ reads_name block ports address f.whole f.right_address f.right_port

-- A field that is put at its place in a block is read back there.
put_back : (first last : ℕ) (block before field behind : List ℕ) → block ≡ before ++ field ++ behind → length before ≡ 2 * first → length field ≡ 2 * (last + 1 - first) → words first last block ≡ field
put_back first last block before field behind e l k =
    rw (e, append_assoc before field behind, drop_at before (field ++ behind) (2 * first) l, take_at field behind (2 * (last + 1 - first)) k)

zeros : ℕ → List ℕ
zeros n = replicate n 0x00

length_zeros : (n : ℕ) → length (zeros n) ≡ n
unfolding zeros
length_zeros n = length-replicate n 0x00

-- A word 87 that says that there is a name.
abbrev said : List ℕ
said = 0x00 ∷ 0x41 ∷ []

-- The block that has these bytes in words 10-19, 27-46 and 108-111, that word 87, and zeros elsewhere.
block_of : List ℕ → List ℕ → List ℕ → List ℕ
block_of serial model name =
    zeros 20 ++ serial ++ zeros 14 ++ model ++ zeros 80 ++ said ++ zeros 40 ++ name ++ zeros 288

record Fields (s m n : List ℕ) : Type 0 where
  serial_fits : length s ≡ 20
  model_fits : length m ≡ 40
  name_fits : length n ≡ 8

-- Its length, its fields and its descriptor.
module _ {s m n : List ℕ} (f : Fields s m n) where
  length_block : length (block_of s m n) ≡ 512
  unfolding block_of
  length_block = simp (length-append, length_zeros) (omega arith)

  serial_of : serial (block_of s m n) ≡ s
  unfolding block_of
  serial_of =
      put_back 10 19 (block_of s m n) (zeros 20) s (zeros 14 ++ m ++ zeros 80 ++ said ++ zeros 40 ++ n ++ zeros 288) (simp append_assoc)
      (length_zeros 20) f.serial_fits

  model_of : model (block_of s m n) ≡ m
  unfolding block_of
  model_of =
      put_back 27 46 (block_of s m n) (zeros 20 ++ s ++ zeros 14) m (zeros 80 ++ said ++ zeros 40 ++ n ++ zeros 288) (simp append_assoc)
      (simp (length-append, length_zeros) (omega arith)) f.model_fits

  name_of_is : name (block_of s m n) ≡ n
  unfolding block_of
  name_of_is =
      put_back 108 111 (block_of s m n) (zeros 20 ++ s ++ zeros 14 ++ m ++ zeros 80 ++ said ++ zeros 40) n (zeros 288) refl
      (simp (length-append, length_zeros) (omega arith)) f.name_fits

  said_of : words 87 87 (block_of s m n) ≡ said
  unfolding block_of
  said_of =
      put_back 87 87 (block_of s m n) (zeros 20 ++ s ++ zeros 14 ++ m ++ zeros 80) said (zeros 40 ++ n ++ zeros 288) (simp append_assoc)
      (simp (length-append, length_zeros) (omega arith)) refl

  -- byte 510 is one of the zeros at its end
  passes : damaged (block_of s m n) ≡ false
  unfolding block_of zeros
  passes =
      let front = zeros 20 ++ s ++ zeros 14 ++ m ++ zeros 80 ++ said ++ zeros 40 ++ n in
      let at : 510 ≡ length front + 286 = simp (length-append, length_zeros) (omega arith) in
      let zero-there : get_or (front ++ zeros 288) 510 0 ≡ 0 = ap (λ (k : ℕ). get_or (front ++ zeros 288) k 0) at ∙ get_or-append-add front (zeros 288) 286 0 in
      unsigned_passes (block_of s m n) (rw zero-there)

  carries : carries_name (block_of s m n) ≡ some_bit n
  carries = said_named (block_of s m n) (ap says_named (field_word 87 (block_of s m n) said_of)) ∙ ap some_bit name_of_is

  drive_of_name : some_bit n ≡ true → drive_descriptor (block_of s m n) ≡ name_descriptor (turned n)
  drive_of_name h = named_drive (block_of s m n) (carries ∙ h) ∙ rw name_of_is

  drive_of_texts : some_bit n ≡ false → drive_descriptor (block_of s m n) ≡ text_descriptor (spaced (turned m)) (spaced (turned s))
  drive_of_texts h = unnamed_drive (block_of s m n) (carries ∙ h) ∙ rw (model_of, serial_of)

-- A block is of bytes where its fields are.
bytes_append : {s t : List ℕ} → Bytes s → Bytes t → Bytes (s ++ t)
bytes_append no_more c = c
bytes_append (more h b) c = more h (bytes_append b c)

bytes_cut : (k : ℕ) {s : List ℕ} → Bytes s → Bytes (take k s) × Bytes (drop k s)
bytes_cut zero b = (no_more, b)
bytes_cut (suc k) no_more = (no_more, no_more)
bytes_cut (suc k) (more h b) = let c = bytes_cut k b in (more h c.0, c.1)

bytes_turned : {s : List ℕ} → Bytes s → Bytes (turned s)
unfolding turned
bytes_turned no_more = no_more
bytes_turned (more h no_more) = more h no_more
bytes_turned (more h (more k b)) = more k (more h (bytes_turned b))

bytes_zeros : (n : ℕ) → Bytes (zeros n)
unfolding zeros
bytes_zeros zero = no_more
bytes_zeros (suc n) = more {byte = 0} (omega arith) (bytes_zeros n)

bytes_said : Bytes said
bytes_said = more {byte = 0x00} (omega arith) (more {byte = 0x41} (omega arith) no_more)

bytes_block : {s m n : List ℕ} → Bytes s → Bytes m → Bytes n → Bytes (block_of s m n)
unfolding block_of
bytes_block s m n = search (bytes_append, bytes_zeros, bytes_said) depth 10

-- Some drive has the first descriptor that ends at a place of this page: a block of 512 that passes has it, and one of bytes where the
-- page is of bytes.
abbrev Made : ℕ → List ℕ → Type 0
Made end page = (block : List ℕ) × (length block ≡ 512) × (damaged block ≡ false) × (drive_descriptor block ++ drop end page ≡ drop 4 page) × (Bytes page → Bytes block)

-- A field that starts behind k bytes of the descriptor.
behind_head : (k m : ℕ) (page : List ℕ) → take m (drop (4 + k) page) ++ drop (4 + k + m) page ≡ drop (4 + k) page
behind_head k m page = rw (← drop-drop m (4 + k) page) (take-append-drop m (drop (4 + k) page))

-- The block of a page that names: the name, turned back, and zeros.
named_block : List ℕ → List ℕ
named_block page = block_of (zeros 20) (zeros 40) (turned (take 8 (drop 8 page)))

made_name : (page : List ℕ) → names_drive page ≡ true → Made 16 page
unfolding named_block
made_name page h =
    let w = passed 16 4 (name_descriptor []) page (some_bit (take 8 (drop 8 page))) h in
    let n = take 8 (drop 8 page) in
    let f : Fields (zeros 20) (zeros 40) (turned n) = record {
      serial_fits = length_zeros 20;
      model_fits = length_zeros 40;
      name_fits = omega (arith, length_turned n, length-take 8 (drop 8 page), length-drop 8 page, w.0);
    } in (
      named_block page,
      length_block f,
      passes f,
      rw (drive_of_name f (some_bit_turned n ∙ w.2), turned_twice n)
          (ap name_descriptor (behind_head 4 8 page ∙ sym (drop-drop 4 4 page)) ∙ starts_with 4 (name_descriptor []) (drop 4 page) w.1),
      λ b. bytes_block (bytes_zeros 20) (bytes_zeros 40) (bytes_turned (bytes_cut 8 (bytes_cut 8 b).1).0),
    )

-- The block of a page of texts: its model and its serial number, turned back, and zeros, so that it carries no name.
text_block : List ℕ → List ℕ
text_block page = block_of (turned (take 20 (drop 56 page))) (turned (take 40 (drop 16 page))) (zeros 8)

no_name : some_bit (zeros 8) ≡ false
unfolding some_bit zeros
no_name = refl

-- Model and serial number together, and as they are spaced.
both_texts : (page : List ℕ) → take 40 (drop 16 page) ++ take 20 (drop 56 page) ≡ take 60 (drop 16 page)
both_texts page = rw (← drop-drop 40 16 page) (sym (take-add 40 20 (drop 16 page)))

spaced_texts : (page : List ℕ) → no_zero (take 60 (drop 16 page)) ≡ true → spaced (take 40 (drop 16 page)) ++ spaced (take 20 (drop 56 page)) ≡ take 60 (drop 16 page)
spaced_texts page h =
    sym (map-append space (take 40 (drop 16 page)) (take 20 (drop 56 page))) ∙ ap spaced (both_texts page) ∙ spaced_no_zero (take 60 (drop 16 page)) h

made_texts : (page : List ℕ) → tells_texts page ≡ true → Made 76 page
unfolding text_block
made_texts page h =
    let w = passed 76 12 (text_descriptor [] []) page (no_zero (take 60 (drop 16 page))) h in
    let m = take 40 (drop 16 page) in
    let s = take 20 (drop 56 page) in
    let f : Fields (turned s) (turned m) (zeros 8) = record {
      serial_fits = omega (arith, length_turned s, length-take 20 (drop 56 page), length-drop 56 page, w.0);
      model_fits = omega (arith, length_turned m, length-take 40 (drop 16 page), length-drop 16 page, w.0);
      name_fits = length_zeros 8;
    } in (
      text_block page,
      length_block f,
      passes f,
      rw (drive_of_texts f no_name, turned_twice m, turned_twice s)
          (ap (λ (l : List ℕ). text_descriptor [] l ++ drop 76 page) (spaced_texts page w.2)
          ∙ ap (text_descriptor []) (behind_head 12 60 page ∙ sym (drop-drop 12 4 page)) ∙ starts_with 12 (text_descriptor [] []) (drop 4 page) w.1),
      λ b. bytes_block (bytes_turned (bytes_cut 20 (bytes_cut 56 b).1).0) (bytes_turned (bytes_cut 40 (bytes_cut 16 b).1).0) (bytes_zeros 8),
    )

-- A page with the right head, such a first descriptor and ports behind it is the page of that block with those ports.
module _ (end : ℕ) (page : List ℕ) (h : headed page ≡ true) (m : Made end page) (t : tells_ports (drop end page) ≡ true) where
  abbrev ports_of_page : Ports
  ports_of_page = ports_in (drop end page)

  abbrev address_of_page : List ℕ
  address_of_page = address_in (drop end page)

  page_again : page83 m.0 ports_of_page address_of_page ≡ page
  unfolding page83
  page_again =
      ap (λ (l : List ℕ). head (length (drive_descriptor m.0 ++ l)) ++ drive_descriptor m.0 ++ l) (ports_again (drop end page) t)
      ∙ ap (λ (l : List ℕ). head (length l) ++ l) m.3
      ∙ ap (λ (n : ℕ). head n ++ drop 4 page) (length-drop 4 page)
      ∙ starts_with 4 (head (length page - 4)) page (equal_same (take 4 page) (head (length page - 4)) h)

  written_again : (room : List ℕ) → length page ≤ length room → ((write m.0 ports_of_page address_of_page room).written.number ≡ 0) × (left (write m.0 ports_of_page address_of_page room) ≡ page)
  written_again room l =
      let f : Writable m.0 ports_of_page address_of_page room = record {
        whole = m.1;
        passes = m.2;
        right_address = address_right (drop end page) t;
        right_port = port_right (drop end page) t;
        enough = rw page_again l;
      } in
      (ap (λ (o : Outcome). o.written.number) (write_is m.0 ports_of_page address_of_page room f), left_is m.0 ports_of_page address_of_page room f ∙ page_again)

-- What an accepted page owes: the block, and the ports and the address of what was read.
abbrev Owed : List ℕ → Name → Type 0
Owed page n = (block : List ℕ) × (Bytes page → Bytes block) × ((room : List ℕ) → length page ≤ length room → ((write block n.ports n.address room).written.number ≡ 0) × (left (write block n.ports n.address room) ≡ page))

owed : (end form : ℕ) (name page : List ℕ) → headed page ≡ true → Made end page → (told form (in_sixty name) (drop end page)).number ≡ 0 → Owed page (told form (in_sixty name) (drop end page))
unfolding told
owed end form name page h m e = by (tells_ports (drop end page)) refl e
  where
    either : Bool → Name
    either t = cond t (given form name (drop end page)) Reader.refused

    by : (t : Bool) → tells_ports (drop end page) ≡ t → (either t).number ≡ 0 → Owed page (either t)
    by true t e = (m.0, m.4, written_again end page h m t)
    by false t e = absurd (omega (arith, e))

pub accepted_is_written : AcceptedIsWritten
unfolding read
accepted_is_written page e = by (headed page && names_drive page) (headed page && tells_texts page) refl refl e
  where
    either : Bool → Bool → Name
    either p q = cond p (told 1 (in_sixty (take 8 (drop 8 page))) (drop 16 page)) (cond q (told 2 (in_sixty (take 60 (drop 16 page))) (drop 76 page)) Reader.refused)

    by : (p q : Bool) → (headed page && names_drive page) ≡ p → (headed page && tells_texts page) ≡ q → (either p q).number ≡ 0 → Owed page (either p q)
    by true q f g e = let both = (and-eq-true_iff _ (names_drive page)).0 f in owed 16 1 (take 8 (drop 8 page)) page both.0 (made_name page both.1) e
    by false true f g e = let both = (and-eq-true_iff _ (tells_texts page)).0 g in owed 76 2 (take 60 (drop 16 page)) page both.0 (made_texts page both.1) e
    by false false f g e = absurd (omega (arith, e))

-- Texts are equal with their zero bytes as spaces, turned or not.
one_text : (s t : List ℕ) → (spaced (turned s) ≡ spaced (turned t)) ↔ (spaced s ≡ spaced t)
one_text s t =
    (λ e. turned_injective (turned_spaced s ∙ e ∙ sym (turned_spaced t)), λ e. sym (turned_spaced s) ∙ ap turned e ∙ turned_spaced t)

-- Where the first of two texts has n bytes, they can be told apart again.
apart : (n : ℕ) (s t u v : List ℕ) → length s ≡ n → length u ≡ n → s ++ t ≡ u ++ v → (s ≡ u) × (t ≡ v)
apart n s t u v l k e =
    (sym (take_at s t n l) ∙ ap (take n) e ∙ take_at u v n k, sym (drop_at s t n l) ∙ ap (drop n) e ∙ drop_at u v n k)

module _ (a b : List ℕ) where
  -- Two blocks of the same drive have equal first descriptors,
  same_drive_same_descriptor : same_drive a b ≡ true → drive_descriptor a ≡ drive_descriptor b
  same_drive_same_descriptor e = by (same_drive_means a b e)
    where
      by : OneName a b ⊎ OneText a b → drive_descriptor a ≡ drive_descriptor b
      by (inl w) = rw (named_drive a w.0, named_drive b w.1, w.2)
      by (inr w) = rw (unnamed_drive a w.0, unnamed_drive b w.1, (one_text (model a) (model b)).1 w.2, (one_text (serial a) (serial b)).1 w.3)

  -- and equal ones are of the same drive. Byte 3 tells a name from texts.
  same_descriptor_same_drive : length a ≡ 512 → length b ≡ 512 → drive_descriptor a ≡ drive_descriptor b → same_drive a b ≡ true
  same_descriptor_same_drive la lb e = same_drive_when a b (by (carries_name a) (carries_name b) refl refl)
    where
      by : (p q : Bool) → carries_name a ≡ p → carries_name b ≡ q → OneName a b ⊎ OneText a b
      by true true h k = inl (h, k, turned_injective (ap (drop 4) (sym (named_drive a h) ∙ e ∙ named_drive b k)))
      by true false h k = absurd (omega (arith, ap (λ (l : List ℕ). get_or l 3 0) (sym (named_drive a h) ∙ e ∙ unnamed_drive b k)))
      by false true h k = absurd (omega (arith, ap (λ (l : List ℕ). get_or l 3 0) (sym (unnamed_drive a h) ∙ e ∙ named_drive b k)))
      by false false h k =
          let texts = ap (drop 12) (sym (unnamed_drive a h) ∙ e ∙ unnamed_drive b k) in
          let w = apart 40 (spaced (turned (model a))) _ (spaced (turned (model b))) _ (length_model_text a la) (length_model_text b lb) texts in
          inr (h, k, (one_text (model a) (model b)).0 w.0, (one_text (serial a) (serial b)).0 w.1)

-- The first descriptor of a page is the drive's.
first_is : (block : List ℕ) (ports : Ports) (address : List ℕ) → length block ≡ 512 → first_descriptor (page83 block ports address) ≡ drive_descriptor block
unfolding page83
first_is block ports address l = by (carries_name block) refl
  where
    by : (t : Bool) → carries_name block ≡ t → take (4 + get_or (drive_descriptor block ++ ports_part ports address) 3 0) (drive_descriptor block ++ ports_part ports address) ≡ drive_descriptor block
    by true h =
        let at : 4 + get_or (drive_descriptor block ++ ports_part ports address) 3 0 ≡ 12 = rw (named_drive block h) in
        rw at (take_at (drive_descriptor block) (ports_part ports address) 12 (length_named block l h))
    by false h =
        let at : 4 + get_or (drive_descriptor block ++ ports_part ports address) 3 0 ≡ 72 = rw (unnamed_drive block h) in
        rw at (take_at (drive_descriptor block) (ports_part ports address) 72 (length_unnamed block l h))

-- Of two that the writer takes:
module _ {a : List ℕ} {p : Ports} {x : List ℕ} {b : List ℕ} {q : Ports} {y room other : List ℕ} (f : Writable a p x room) (g : Writable b q y other) where
  -- equal pages are of the same drive, and tell the same ports,
  page_tells : page83 a p x ≡ page83 b q y → (same_drive a b ≡ true) × SamePorts p x q y
  unfolding page83
  page_tells e =
      let drive = sym (first_is a p x f.whole) ∙ ap first_descriptor e ∙ first_is b q y g.whole in
      let rest = apart (length (drive_descriptor b)) (drive_descriptor a) (ports_part p x) (drive_descriptor b) (ports_part q y) (ap length drive) refl (ap (drop 4) e) in
      (same_descriptor_same_drive a b f.whole g.whole drive, same_part_same_ports p x q y f.right_address f.right_port g.right_address g.right_port rest.1)

  -- and the same drive with the same ports has equal pages.
  page_told : same_drive a b ≡ true → SamePorts p x q y → page83 a p x ≡ page83 b q y
  unfolding page83
  page_told e s = rw (same_drive_same_descriptor a b e, same_ports_same_part p x q y s)

  pub tells_apart : TellsApart (page83 a p x) (page83 b q y) a b (SamePorts p x q y)
  tells_apart =
      record {
        by_first_descriptor = (
          λ e. same_descriptor_same_drive a b f.whole g.whole (sym (first_is a p x f.whole) ∙ e ∙ first_is b q y g.whole),
          λ e. first_is a p x f.whole ∙ same_drive_same_descriptor a b e ∙ sym (first_is b q y g.whole),
        );
        by_page = (page_tells, λ w. page_told w.0 w.1);
      }

pub pages_of_the_writer : PagesOfTheWriter
pages_of_the_writer a p x b q y room other f g = rw (left_is a p x room f, left_is b q y other g) (tells_apart f g)
