-- Demand 3 of the roll: which blocks it accepts, and what it leaves in the room and answers then.
use mathlib.Core.Path.{◌≡◌, refl, sym, ap, ◌∙◌}
use mathlib.Core.Bool.{Bool, true, false, cond, ◌||◌, not, true≢false, false≢true}
use mathlib.Core.Logic.{◌↔◌, ⊎_elim}
use mathlib.Core.List.{List, [], ◌∷◌, ◌++◌, append_assoc}
use Prim.Native.Nat.{ℕ, zero, suc, ◌+◌, ◌*◌, ◌/◌, ◌%◌, ◌-◌, ◌≤◌, ◌<◌}
use native.Mathlib.Nat.{eq-zero-or-pos}
use native.Mathlib.Omega.{arith}
use lib.Dec.{eqb, ltb}
use lib.ListN.{length, get_or, take, drop, length-append, get_or-append}
use lib.Seq.{get_or-append_seam, get_or-append-add, get_or-drop, take-nil, drop-nil, take-take, take_all, length-take-le}
use borrow.Author.Tests.{eqb-true, ltb-false, not-false, eq-eqb, le-ltb}
use Rattle.rules.proofs.First.{silent}
use Rattle.room.specs.Room.{written}
use Rattle.room.proofs.Laws.{written_front, length_written}
use Rattle.checksum.specs.Checksum.{any_damaged}
use Rattle.checksum.proofs.Laws.{all_pass, each_passes}
use Rattle.drive.specs.Drive.{same_drive}
use Rattle.drive.proofs.Drive.{same_drive_self, same_drive_turned_round, same_drive_through}
use Rattle.roll.specs.Roll.{blocks_in, blocks, block_at, known, met, drives_from, drives, row_in, rows, checks, refusal_of, Outcome, roll}
use Rattle.roll.specs.Roll as Roll
use Rattle.roll.proofs.Laws.{blocks_more, length_blocks, block_of_is, known_append, known_met, known_drives, drives_append, drives_more, row_same, row_kept, row_new, rows_more, each_known, row_at_is, length_rows, read_row, unknown, same_either_way}
use Rattle.demands.specs.Promises.{row_at, Rollable, RollAccepts, Rolled, RollOfDrives}
use Rattle.demands.proofs.Refusals.{not_refused}

-- Rows run from 1, and a known drive shares its row with no other.
from_one : (s : List (List ℕ)) (x : List ℕ) → 1 ≤ row_in s x
unfolding row_in
from_one [] x = omega arith
from_one (d ∷ s) x = by (same_drive d x)
  where
    by : (e : Bool) → 1 ≤ cond e 1 (suc (row_in s x))
    by true = omega arith
    by false = omega arith

row_means : (x y : List ℕ) (s : List (List ℕ)) → known x s ≡ true → row_in s x ≡ row_in s y → same_drive x y ≡ true
unfolding known row_in
row_means x y [] k r = absurd (false≢true k)
row_means x y (d ∷ s) k r = by (same_drive d x) (same_drive d y) refl refl k r (row_means x y s)
  where
    by : (e f : Bool) → same_drive d x ≡ e → same_drive d y ≡ f → (e || known x s) ≡ true → cond e 1 (suc (row_in s x)) ≡ cond f 1 (suc (row_in s y)) → (known x s ≡ true → row_in s x ≡ row_in s y → same_drive x y ≡ true) → same_drive x y ≡ true
    by true true p q k r next = same_drive_through x d y (same_drive_turned_round d x p) q
    by true false p q k r next = absurd (omega (arith, from_one s y))
    by false true p q k r next = absurd (omega (arith, from_one s x))
    by false false p q k r next = next k (omega arith)

-- A known drive's row is one of the list's.
row_within : (s : List (List ℕ)) (x : List ℕ) → known x s ≡ true → row_in s x ≤ length s
unfolding known row_in
row_within [] x k = absurd (false≢true k)
row_within (d ∷ s) x k = by (same_drive d x) k (row_within s x)
  where
    by : (e : Bool) → (e || known x s) ≡ true → (known x s ≡ true → row_in s x ≤ length s) → cond e 1 (suc (row_in s x)) ≤ suc (length s)
    by true k r = omega arith
    by false k r = let h = r k in omega arith

-- The row of a known drive stays as the run goes on, so a new drive has the row behind those before it.
row_stays : (x : List ℕ) (seen run : List (List ℕ)) → known x seen ≡ true → row_in (drives_from seen run) x ≡ row_in seen x
unfolding drives_from
row_stays x seen [] k = refl
row_stays x seen (b ∷ run) k = row_stays x (met seen b) run (known_met x b seen ∙ rw k) ∙ row_kept x b seen k

next_row_is : (before after : List (List ℕ)) (b : List ℕ) → known b before ≡ false → row_in (drives (before ++ (b ∷ after))) b ≡ suc (length (drives before))
unfolding known drives_from
next_row_is before after b h =
    let k : known b (drives before) ≡ false = known_drives b [] before ∙ h in
    let s : known b (met (drives before) b) ≡ true = known_met b b (drives before) ∙ rw (k, same_drive_self b) in
    rw (drives_append [] before (b ∷ after)) (row_stays b (met (drives before) b) after s ∙ rw k (row_new b (drives before) k))

-- A run parted at one of its blocks.
parted : (i n : ℕ) (bytes : List ℕ) → i < n → (after : List (List ℕ)) × (blocks_in n bytes ≡ blocks_in i bytes ++ (block_at bytes i ∷ after))
parted i zero bytes h = absurd (omega arith)
parted i (suc n) bytes h =
    ⊎_elim (λ z. let e : i ≡ n = omega arith in ([], rw e (blocks_more n bytes)))
    (λ z.
    let w = parted i n bytes (omega arith) in
    (w.0 ++ (block_at bytes n ∷ []), blocks_more n bytes ∙ ap (λ (l : List (List ℕ)). l ++ (block_at bytes n ∷ [])) w.1 ∙ append_assoc (blocks_in i bytes) (block_at bytes i ∷ w.0) (block_at bytes n ∷ [])))
    (eq-zero-or-pos (n - i))

-- Every number up to the drives' is the row of a block.
abbrev Onto : ℕ → List ℕ → Type 0
Onto n bytes = (r : ℕ) → 1 ≤ r → r ≤ length (drives (blocks_in n bytes)) → (i : ℕ) × (i < n) × (get_or (rows (blocks_in n bytes)) i 0 ≡ r)

module _ (n : ℕ) (bytes : List ℕ) (known-so-far : Onto n bytes) (r : ℕ) (h : 1 ≤ r) where
  abbrev run : List (List ℕ)
  run = blocks_in n bytes

  abbrev b : List ℕ
  b = block_at bytes n

  abbrev new : ℕ
  new = row_in (met (drives run) b) b

  are : rows (blocks_in (suc n) bytes) ≡ rows run ++ (new ∷ [])
  are = ap rows (blocks_more n bytes) ∙ rows_more run b

  long : length (rows run) ≡ n
  long = length_rows run (drives run) ∙ length_blocks n bytes

  count : length (drives (blocks_in (suc n) bytes)) ≡ length (met (drives run) b)
  count = ap (λ (l : List (List ℕ)). length (drives l)) (blocks_more n bytes) ∙ ap length (drives_more [] run b)

  abbrev Some : Type 0
  Some = (i : ℕ) × (i < suc n) × (get_or (rows (blocks_in (suc n) bytes)) i 0 ≡ r)

  before : r ≤ length (drives run) → Some
  before l =
      let w = known-so-far r h l in
      (w.0, omega (arith, w.1), ap (λ (s : List ℕ). get_or s w.0 0) are ∙ get_or-append (rows run) (new ∷ []) 0 w.0 (omega (arith, long, w.1)) ∙ w.2)

  last : known b (drives run) ≡ false → r ≡ suc (length (drives run)) → Some
  last f e =
      let v : new ≡ suc (length (drives run)) = rw f (row_new b (drives run) f) in (
        n,
        omega arith,
        ap (λ (s : List ℕ). get_or s n 0) are ∙ ap (λ (k : ℕ). get_or (rows run ++ (new ∷ [])) k 0) (sym long)
            ∙ get_or-append_seam (rows run) new [] 0 ∙ v ∙ sym e,
      )

  onto_more : (t : Bool) → known b (drives run) ≡ t → r ≤ length (drives (blocks_in (suc n) bytes)) → Some
  onto_more true f k =
      let m : met (drives run) b ≡ drives run = rw f in
      before (omega (arith, count, ap length m))
  onto_more false f k =
      let m : met (drives run) b ≡ drives run ++ (b ∷ []) = rw f in
      let l : length (met (drives run) b) ≡ suc (length (drives run)) = ap length m ∙ length-append (drives run) (b ∷ []) ∙ omega arith in
      ⊎_elim (λ z. before (omega arith)) (λ z. last f (omega (arith, count, l))) (eq-zero-or-pos (r - length (drives run)))

rows_onto : (n : ℕ) (bytes : List ℕ) → Onto n bytes
unfolding blocks_in drives_from
rows_onto zero bytes r h k = absurd (omega arith)
rows_onto (suc n) bytes r h k = onto_more n bytes (rows_onto n bytes) r h (known (block_at bytes n) (drives (blocks_in n bytes))) refl k

-- The blocks of a run's front.
drop_of_front : (m k : ℕ) (l : List ℕ) → drop m (take (m + k) l) ≡ take k (drop m l)
drop_of_front zero k l =
    let e : zero + k ≡ k = omega arith in
    ap (λ (n : ℕ). take n l) e
drop_of_front (suc m) k [] = rw (take-nil (suc m + k), drop-nil (suc m), take-nil k)
drop_of_front (suc m) k (x ∷ l) =
    let e : suc m + k ≡ suc (m + k) = omega arith in
    ap (λ (n : ℕ). drop (suc m) (take n (x ∷ l))) e ∙ drop_of_front m k l

blocks_of_front : (i : ℕ) (bytes : List ℕ) → blocks_in i (take (512 * i) bytes) ≡ blocks_in i bytes
unfolding blocks_in
blocks_of_front zero bytes = refl
blocks_of_front (suc i) bytes =
    let e : 512 * suc i ≡ 512 + 512 * i = omega arith in
    rw (e, take-take 512 (512 + 512 * i) bytes (omega arith), drop_of_front 512 (512 * i) bytes)
    (ap (λ (l : List (List ℕ)). take 512 bytes ∷ l) (blocks_of_front i (drop 512 bytes)))

-- What an accepted roll was lent, and what it leaves.
module _ (bytes room : List ℕ) where
  abbrev refused : ℕ → Outcome
  refused number = Roll.outcome (record { number = number; blocks = 0; drives = 0 }) room

  abbrev accepted : Outcome
  accepted = Roll.outcome (record { number = 0; blocks = length bytes / 512; drives = length (drives (blocks bytes)) }) (written room 0 (rows (blocks bytes)))

  fits : refusal_of bytes (length room) ≡ 0 → Rollable bytes room
  unfolding refusal_of
  fits e =
      let c = silent (checks bytes (length room)) refl e in
      record {
        sized = record {
          whole = eqb-true _ _ (not-false _ c.0);
          few = ltb-false _ _ c.1.0;
          enough = ltb-false _ _ c.1.1.0;
        };
        pass = λ i h. rw (block_of_is (length bytes / 512) i bytes h) at (each_passes (blocks bytes) c.1.1.1.0 i (rw (length_blocks (length bytes / 512) bytes) h));
      }

  none_damaged : Rollable bytes room → any_damaged (blocks bytes) ≡ false
  none_damaged f =
      let n = length bytes / 512 in
      all_pass (blocks bytes)
      (λ k h.
      let l : k < n = rw (length_blocks n bytes) at h in
      rw (block_of_is n k bytes l) (f.pass k l))

  roll_is : Rollable bytes room → roll bytes room ≡ accepted
  unfolding roll refusal_of
  roll_is f = rw (eq-eqb _ _ f.sized.whole, le-ltb _ _ f.sized.few, le-ltb _ _ f.sized.enough, none_damaged f)

  accepted_fits : (roll bytes room).counted.number ≡ 0 → Rollable bytes room
  unfolding roll
  accepted_fits e = fits (not_refused (λ (o : Outcome). o.counted.number) refused accepted (refusal_of bytes (length room)) refl e)

  module _ (f : Rollable bytes room) where
    abbrev of : List (List ℕ)
    of = blocks bytes

    length_of_rows : length (rows of) ≡ length bytes / 512
    length_of_rows = length_rows of (drives of) ∙ length_blocks (length bytes / 512) bytes

    room_is : (roll bytes room).room ≡ written room 0 (rows of)
    room_is = ap (λ (o : Outcome). o.room) (roll_is f)

    count_is : (roll bytes room).counted.drives ≡ length (drives of)
    count_is = ap (λ (o : Outcome). o.counted.drives) (roll_is f)

    entry_is : (i : ℕ) → i < length bytes / 512 → row_at bytes room i ≡ get_or (rows of) i 0
    entry_is i h =
        ap (λ (r : List ℕ). get_or r i 0) room_is
        ∙ read_row room (rows of) i (omega (arith, length_of_rows)) (omega (arith, length_of_rows, f.sized.enough))

    place : (i : ℕ) → i < length bytes / 512 → get_or of i [] ≡ block_at bytes i
    place i h = block_of_is (length bytes / 512) i bytes h

    within : (i : ℕ) → i < length bytes / 512 → i < length of
    within i h = omega (arith, length_blocks (length bytes / 512) bytes)

    row_is : (i : ℕ) → i < length bytes / 512 → row_at bytes room i ≡ row_in (drives of) (block_at bytes i)
    row_is i h = entry_is i h ∙ row_at_is of (drives of) i (within i h) ∙ ap (row_in (drives of)) (place i h)

    is_known : (i : ℕ) → i < length bytes / 512 → known (block_at bytes i) (drives of) ≡ true
    is_known i h = ap (λ (b : List ℕ). known b (drives of)) (sym (place i h)) ∙ each_known of i (within i h)

    share : (i j : ℕ) → i < length bytes / 512 → j < length bytes / 512 → (row_at bytes room i ≡ row_at bytes room j) ↔ (same_drive (block_at bytes i) (block_at bytes j) ≡ true)
    share i j hi hj = (
      λ e. row_means (block_at bytes i) (block_at bytes j) (drives of) (is_known i hi) (sym (row_is i hi) ∙ e ∙ row_is j hj),
      λ e. row_is i hi ∙ row_same (block_at bytes i) (block_at bytes j) e (drives of) ∙ sym (row_is j hj),
    )

    first_row : (i : ℕ) → i < length bytes / 512 → ((k : ℕ) → k < i → same_drive (block_at bytes k) (block_at bytes i) ≡ false) → row_at bytes room i ≡ suc (length (drives (blocks_in i bytes)))
    first_row i h z =
        let w = parted i (length bytes / 512) bytes h in
        let u = unknown (block_at bytes i) (blocks_in i bytes) (λ k l.
        let m : k < i = omega (arith, length_blocks i bytes) in
        ap (λ (b : List ℕ). same_drive b (block_at bytes i)) (block_of_is i k bytes m) ∙ z k m) in
        row_is i h ∙ ap (λ (l : List (List ℕ)). row_in (drives l) (block_at bytes i)) w.1 ∙ next_row_is (blocks_in i bytes) w.0 (block_at bytes i) u

    later : (k : ℕ) → length bytes / 512 ≤ k → row_at bytes room k ≡ get_or room k 0
    later k h =
        let l = length_of_rows in
        let e : k ≡ length (rows of) + (k - length (rows of)) = omega arith in
        ap (λ (r : List ℕ). get_or r k 0) (room_is ∙ written_front room (rows of) ∙ ap (λ (t : List ℕ). t ++ drop (length (rows of)) room) (take_all (length room) (rows of) (omega (arith, l, f.sized.enough))))
        ∙ ap (λ (m : ℕ). get_or (rows of ++ drop (length (rows of)) room) m 0) e
        ∙ get_or-append-add (rows of) (drop (length (rows of)) room) (k - length (rows of)) 0
        ∙ get_or-drop (length (rows of)) room (k - length (rows of)) 0
        ∙ ap (λ (m : ℕ). get_or room m 0) (sym e)

-- The roll of a run's front, as long as the roll of the whole is accepted.
block_of_front : (i k : ℕ) (bytes : List ℕ) → k < i → block_at (take (512 * i) bytes) k ≡ block_at bytes k
block_of_front i k bytes h =
    sym (block_of_is i k (take (512 * i) bytes) h) ∙ ap (λ (l : List (List ℕ)). get_or l k []) (blocks_of_front i bytes) ∙ block_of_is i k bytes h

count_of_front : (bytes room : List ℕ) → Rollable bytes room → (i : ℕ) → i < length bytes / 512 → (roll (take (512 * i) bytes) room).counted.drives ≡ length (drives (blocks_in i bytes))
count_of_front bytes room f i h =
    let l : length (take (512 * i) bytes) ≡ 512 * i = length-take-le (512 * i) bytes (omega arith) in
    let d : length (take (512 * i) bytes) / 512 ≡ i = omega (arith, l) in
    let g : Rollable (take (512 * i) bytes) room = record {
      sized = record { whole = omega (arith, l); few = omega (arith, l, f.sized.few); enough = omega (arith, d, f.sized.enough) };
      pass = λ k b. rw (block_of_front i k bytes (omega (arith, b, d))) (f.pass k (omega (arith, b, d, h)));
    } in
    count_is (take (512 * i) bytes) room g ∙ ap (λ (n : ℕ). length (drives (blocks_in n (take (512 * i) bytes)))) d ∙ ap (λ (b : List (List ℕ)). length (drives b)) (blocks_of_front i bytes)

pub roll_accepts : RollAccepts
roll_accepts bytes room = (accepted_fits bytes room, λ f. ap (λ (o : Outcome). o.counted.number) (roll_is bytes room f))

pub roll_of_drives : RollOfDrives
roll_of_drives bytes room f =
    record {
      blocks = ap (λ (o : Outcome). o.counted.blocks) (roll_is bytes room f);
      share_a_row = share bytes room f;
      by_first_appearance = λ i h z. first_row bytes room f i h z ∙ ap suc (sym (count_of_front bytes room f i h));
      within_the_count = λ i h. (
        rw (row_is bytes room f i h) (from_one (drives (blocks bytes)) (block_at bytes i)),
        rw (row_is bytes room f i h, count_is bytes room f) (row_within (drives (blocks bytes)) (block_at bytes i) (is_known bytes room f i h)),
      );
      each_row_is_a_block's = λ r h k.
          let w = rows_onto (length bytes / 512) bytes r h (rw (count_is bytes room f) at k) in
          (w.0, w.1, entry_is bytes room f w.0 w.1 ∙ w.2);
      later_entries = later bytes room f;
      as_many_entries = ap length (room_is bytes room f) ∙ length_written room 0 (rows (blocks bytes));
    }
