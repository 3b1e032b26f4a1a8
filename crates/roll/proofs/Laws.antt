-- Laws of the roll: a run with one more block, and what keeps its row.
use mathlib.Core.Path.{◌≡◌, refl, sym, ap, ◌∙◌}
use mathlib.Core.Bool.{Bool, true, false, cond, ◌||◌, or_assoc, or-false, or-true, true≢false, false≢true}
use mathlib.Core.List.{List, [], ◌∷◌, ◌++◌, map}
use mathlib.Core.Logic.{⊎_elim}
use Prim.Native.Nat.{ℕ, zero, suc, ◌+◌, ◌*◌, ◌-◌, ◌≤◌, ◌<◌}
use native.Mathlib.Nat.{le_of_suc-le-suc, not-suc-le-zero, eq-zero-or-pos}
use native.Mathlib.Numerals.{add-one}
use native.Mathlib.Omega.{arith}
use lib.ListN.{length, get_or, take, drop, set, length-append, length-map, get_or-append}
use lib.Seq.{drop-drop, take_all}
use Rattle.room.specs.Room.{written}
use Rattle.room.proofs.Laws.{written_front, written_append}
use borrow.Author.Tests.{lt-ltb, le-ltb}
use Rattle.drive.specs.Drive.{same_drive}
use Rattle.drive.proofs.Drive.{same_drive_self, same_drive_turned_round, same_drive_through}
use Rattle.roll.specs.Roll.{blocks_in, block_at, known, met, drives_from, drives, row_in, rows}
use Rattle.roll.specs.Helpers.{Found, Rolled, next_row}

-- Two tests that imply each other are one.
alike : (a b : Bool) → (a ≡ true → b ≡ true) → (b ≡ true → a ≡ true) → a ≡ b
alike true true f g = refl
alike true false f g = sym (f refl)
alike false true f g = g refl
alike false false f g = refl

pub same_either_way : (x y : List ℕ) → same_drive x y ≡ same_drive y x
same_either_way x y = alike (same_drive x y) (same_drive y x) (same_drive_turned_round x y) (same_drive_turned_round y x)

-- Blocks of the same drive are told apart from others alike.
pub same_alike : (x y : List ℕ) → same_drive x y ≡ true → (d : List ℕ) → same_drive d x ≡ same_drive d y
same_alike x y e d =
    alike (same_drive d x) (same_drive d y) (λ p. same_drive_through d x y p e)
    (λ p. same_drive_through d y x p (same_drive_turned_round x y e))

-- The next block of what follows the first is the one behind the first.
next_block : (i : ℕ) (bytes : List ℕ) → block_at (drop 512 bytes) i ≡ block_at bytes (suc i)
next_block i bytes =
    let e : 512 + 512 * i ≡ 512 * suc i = omega arith in
    ap (take 512) (drop-drop (512 * i) 512 bytes ∙ ap (λ (n : ℕ). drop n bytes) e)

-- The blocks of a run: one more at its end, how many, and each by its place.
pub blocks_more : (i : ℕ) (bytes : List ℕ) → blocks_in (suc i) bytes ≡ blocks_in i bytes ++ (block_at bytes i ∷ [])
unfolding blocks_in
blocks_more zero bytes = refl
blocks_more (suc i) bytes =
    ap (λ (l : List (List ℕ)). take 512 bytes ∷ l)
    (blocks_more i (drop 512 bytes) ∙ ap (λ (b : List ℕ). blocks_in i (drop 512 bytes) ++ (b ∷ [])) (next_block i bytes))

pub length_blocks : (n : ℕ) (bytes : List ℕ) → length (blocks_in n bytes) ≡ n
unfolding blocks_in
length_blocks zero bytes = refl
length_blocks (suc n) bytes = ap suc (length_blocks n (drop 512 bytes))

pub block_of_is : (n k : ℕ) (bytes : List ℕ) → k < n → get_or (blocks_in n bytes) k [] ≡ block_at bytes k
unfolding blocks_in
block_of_is zero k bytes h = absurd (not-suc-le-zero h)
block_of_is (suc n) zero bytes h = refl
block_of_is (suc n) (suc k) bytes h = block_of_is n k (drop 512 bytes) (le_of_suc-le-suc h) ∙ next_block k bytes

-- Known in a list, or in what is put behind it.
pub known_append : (b : List ℕ) (s t : List (List ℕ)) → known b (s ++ t) ≡ (known b s || known b t)
unfolding known
known_append b [] t = refl
known_append b (d ∷ s) t = ap (λ (x : Bool). same_drive d b || x) (known_append b s t) ∙ sym (or_assoc (same_drive d b) (known b s) (known b t))

-- Of two blocks of one drive both are known or neither.
pub known_same : (x y : List ℕ) → same_drive x y ≡ true → (s : List (List ℕ)) → known x s ≡ known y s
unfolding known
known_same x y e [] = refl
known_same x y e (d ∷ s) = rw (same_alike x y e d, known_same x y e s)

-- With one block more its drive is known, and nothing else changes.
pub known_met : (b x : List ℕ) (s : List (List ℕ)) → known b (met s x) ≡ (known b s || same_drive x b)
unfolding known
known_met b x s = by (known x s) (same_drive x b) refl refl
  where
    by : (k e : Bool) → known x s ≡ k → same_drive x b ≡ e → known b (cond k s (s ++ (x ∷ []))) ≡ (known b s || e)
    by true true hk he = let h : known b s ≡ true = sym (known_same x b he s) ∙ hk in h ∙ sym (or-true (known b s))
    by true false hk he = sym (or-false (known b s))
    by false e hk he = known_append b s (x ∷ []) ∙ ap (λ (t : Bool). known b s || t) (or-false (same_drive x b) ∙ he)

-- The drives of a run are known, and no other.
pub known_drives : (b : List ℕ) (seen run : List (List ℕ)) → known b (drives_from seen run) ≡ (known b seen || known b run)
unfolding known drives_from
known_drives b seen [] = sym (or-false (known b seen))
known_drives b seen (x ∷ run) =
    known_drives b (met seen x) run ∙ ap (λ (t : Bool). t || known b run) (known_met b x seen) ∙ or_assoc (known b seen) (same_drive x b) (known b run)

-- A block that stands in a run is known in it; one that is the same drive as none is not.
pub known_at : (b : List ℕ) (run : List (List ℕ)) (k : ℕ) → k < length run → same_drive (get_or run k []) b ≡ true → known b run ≡ true
unfolding known
known_at b [] k h e = absurd (not-suc-le-zero h)
known_at b (d ∷ run) zero h e = rw e
known_at b (d ∷ run) (suc k) h e = rw (known_at b run k (le_of_suc-le-suc h) e, or-true)

pub unknown : (b : List ℕ) (run : List (List ℕ)) → ((k : ℕ) → k < length run → same_drive (get_or run k []) b ≡ false) → known b run ≡ false
unfolding known
unknown b [] z = refl
unknown b (d ∷ run) z = rw (z 0 (omega arith)) (unknown b run (λ k h. z (suc k) (omega arith)))

-- The drives of a run that goes on, and of one with one block more.
pub drives_append : (seen run more : List (List ℕ)) → drives_from seen (run ++ more) ≡ drives_from (drives_from seen run) more
unfolding drives_from
drives_append seen [] more = refl
drives_append seen (x ∷ run) more = drives_append (met seen x) run more

pub drives_more : (seen run : List (List ℕ)) (b : List ℕ) → drives_from seen (run ++ (b ∷ [])) ≡ met (drives_from seen run) b
unfolding drives_from
drives_more seen run b = drives_append seen run (b ∷ [])

-- Rows: of two blocks of one drive they are equal, a known drive keeps its own, and a new one gets the next.
pub row_same : (x y : List ℕ) → same_drive x y ≡ true → (s : List (List ℕ)) → row_in s x ≡ row_in s y
unfolding row_in
row_same x y e [] = refl
row_same x y e (d ∷ s) = rw (same_alike x y e d, row_same x y e s)

row_append : (x b : List ℕ) (s : List (List ℕ)) → known x s ≡ true → row_in (s ++ (b ∷ [])) x ≡ row_in s x
unfolding known row_in
row_append x b [] h = absurd (false≢true h)
row_append x b (d ∷ s) h = by (same_drive d x) h (row_append x b s)
  where
    by : (e : Bool) → (e || known x s) ≡ true → (known x s ≡ true → row_in (s ++ (b ∷ [])) x ≡ row_in s x) → cond e 1 (suc (row_in (s ++ (b ∷ [])) x)) ≡ cond e 1 (suc (row_in s x))
    by true h r = refl
    by false h r = ap suc (r h)

pub row_kept : (x b : List ℕ) (s : List (List ℕ)) → known x s ≡ true → row_in (met s b) x ≡ row_in s x
row_kept x b s h = by (known b s)
  where
    by : (k : Bool) → row_in (cond k s (s ++ (b ∷ []))) x ≡ row_in s x
    by true = refl
    by false = row_append x b s h

pub row_new : (b : List ℕ) (s : List (List ℕ)) → known b s ≡ false → row_in (s ++ (b ∷ [])) b ≡ suc (length s)
unfolding known row_in
row_new b [] h = rw (same_drive_self b)
row_new b (d ∷ s) h = by (same_drive d b) h (row_new b s)
  where
    by : (e : Bool) → (e || known b s) ≡ false → (known b s ≡ false → row_in (s ++ (b ∷ [])) b ≡ suc (length s)) → cond e 1 (suc (row_in (s ++ (b ∷ [])) b)) ≡ suc (suc (length s))
    by true h r = absurd (true≢false h)
    by false h r = ap suc (r h)

rows_kept : (b : List ℕ) (s run : List (List ℕ)) → ((k : ℕ) → k < length run → known (get_or run k []) s ≡ true) → map (row_in (met s b)) run ≡ map (row_in s) run
rows_kept b s [] z = refl
rows_kept b s (x ∷ run) z = rw (row_kept x b s (z 0 (omega arith)), rows_kept b s run (λ k h. z (suc k) (omega arith)))

-- Every block of a run has its drive among the run's drives.
pub each_known : (run : List (List ℕ)) (k : ℕ) → k < length run → known (get_or run k []) (drives run) ≡ true
unfolding known
each_known run k h = known_drives (get_or run k []) [] run ∙ known_at (get_or run k []) run k h (same_drive_self (get_or run k []))

-- The rows of a run with one block more: those of the run, and that block's.
pub rows_more : (run : List (List ℕ)) (b : List ℕ) → rows (run ++ (b ∷ [])) ≡ rows run ++ (row_in (met (drives run) b) b ∷ [])
rows_more run b =
    rw (drives_more [] run b) (map_append (row_in (met (drives run) b)) run b
    ∙ ap (λ (l : List ℕ). l ++ (row_in (met (drives run) b) b ∷ [])) (rows_kept b (drives run) run (each_known run)))
  where
    map_append : (f : List ℕ → ℕ) (s : List (List ℕ)) (x : List ℕ) → map f (s ++ (x ∷ [])) ≡ map f s ++ (f x ∷ [])
    map_append f [] x = refl
    map_append f (y ∷ s) x = ap (λ (l : List ℕ). f y ∷ l) (map_append f s x)

-- No run has more drives than blocks.
pub drives_at_most : (seen run : List (List ℕ)) → length (drives_from seen run) ≤ length seen + length run
unfolding drives_from
drives_at_most seen [] = omega arith
drives_at_most seen (x ∷ run) = by (known x seen) (drives_at_most (met seen x) run)
  where
    by : (k : Bool) → length (drives_from (met seen x) run) ≤ length (cond k seen (seen ++ (x ∷ []))) + length run → length (drives_from (met seen x) run) ≤ length seen + length (x ∷ run)
    by true h = omega arith
    by false h = omega (arith, length-append seen (x ∷ []))

pub length_rows : (run s : List (List ℕ)) → length (map (row_in s) run) ≡ length run
length_rows run s = length-map run (row_in s)

pub row_at_is : (run s : List (List ℕ)) (k : ℕ) → k < length run → get_or (map (row_in s) run) k 0 ≡ row_in s (get_or run k [])
row_at_is [] s k h = absurd (not-suc-le-zero h)
row_at_is (x ∷ run) s zero h = refl
row_at_is (x ∷ run) s (suc k) h = row_at_is run s k (le_of_suc-le-suc h)

-- A row written is the row read, and one more goes behind the others.
pub read_row : (r rs : List ℕ) (j : ℕ) → j < length rs → length rs ≤ length r → get_or (written r 0 rs) j 0 ≡ get_or rs j 0
read_row r rs j h l =
    rw (written_front r rs, take_all (length r) rs l) (get_or-append rs (drop (length rs) r) 0 j h)

next_row_is : (r rs : List ℕ) (v : ℕ) → set (written r 0 rs) (0 + length rs) v ≡ written r 0 (rs ++ (v ∷ []))
next_row_is r rs v = written_append r 0 rs (v ∷ [])

-- One block more: its row is its drive's, or the next number.
module _ (bytes room₀ room : List ℕ) (i j d : ℕ) (rolled : Rolled bytes i room₀ room d) (found : Found bytes i j) (fits : i < length room₀) where
  -- the room and the count, once the block's row and the drives with it are known
  next : (ds : List (List ℕ)) (v : ℕ) → met (drives (blocks_in i bytes)) (block_at bytes i) ≡ ds → v ≡ row_in ds (block_at bytes i) → Rolled bytes (suc i) room₀ (set room i v) (length ds)
  next ds v m e =
      let run = blocks_in i bytes in
      let b = block_at bytes i in
      let l : 0 + length (rows run) ≡ i = ap (λ (n : ℕ). 0 + n) (length_rows run (drives run) ∙ length_blocks i bytes) ∙ omega arith in
      record {
        room =
            rw (blocks_more i bytes, rows_more run b, m, ← e)
            (ap (λ (r : List ℕ). set r i v) rolled.room ∙ ap (λ (n : ℕ). set (written room₀ 0 (rows run)) n v) (sym l) ∙ next_row_is room₀ (rows run) v);
        drives = rw (blocks_more i bytes, drives_more [] run b, m);
      }

  met_before : j < i → Rolled bytes (suc i) room₀ (set room i (get_or room j 0)) d
  unfolding known
  met_before h =
      let run = blocks_in i bytes in
      let b = block_at bytes i in
      let jl : j < length run = rw (length_blocks i bytes) h in
      let s : same_drive (get_or run j []) b ≡ true = rw (block_of_is i j bytes h) (found.same h) in
      let k : known b (drives run) ≡ true = known_drives b [] run ∙ known_at b run j jl s in
      let v : get_or room j 0 ≡ row_in (drives run) b =
      rw rolled.room (read_row room₀ (rows run) j (rw (length_rows run (drives run)) jl) (omega (arith, length_rows run (drives run), length_blocks i bytes))
      ∙ row_at_is run (drives run) j jl ∙ row_same (get_or run j []) b s (drives run)) in
      rw rolled.drives (next (drives run) (get_or room j 0) (rw k) v)

  met_first : i ≤ j → Rolled bytes (suc i) room₀ (set room i (d + 1)) (d + 1)
  unfolding known
  met_first h =
      let run = blocks_in i bytes in
      let b = block_at bytes i in
      let k : known b (drives run) ≡ false =
      known_drives b [] run ∙ unknown b run (λ n l. rw (block_of_is i n bytes (omega (arith, length_blocks i bytes))) (found.other n (omega (arith, found.within, length_blocks i bytes)))) in
      let c : length (drives run ++ (b ∷ [])) ≡ d + 1 = omega (arith, length-append (drives run) (b ∷ []), rolled.drives) in
      rw (← c) (next (drives run ++ (b ∷ [])) (length (drives run ++ (b ∷ []))) (rw k) (omega (arith, c, row_new b (drives run) k, rolled.drives)))

  pub one_more : Rolled bytes (i + 1) room₀ (set room i (next_row room j i d).row) (next_row room j i d).drives
  one_more =
      rw (add-one i)
      (⊎_elim (λ z. rw (le-ltb j i (omega arith)) (met_first (omega arith))) (λ z. rw (lt-ltb j i (omega arith)) (met_before (omega arith))) (eq-zero-or-pos (i - j)))
