-- Rows beside blocks: one block more, which takes a row or takes none.
use Rattle.std.proofs.Common.{◌≡◌, ◌≢◌, ◌≤◌, ◌<◌, ◌+◌, ℕ, zero, suc, true, false, List, [], arith, refl, length, take, get_or, set, replicate, below_more, get_or-set_same, get_or-set_other, length-set}
use Rattle.std.specs.Prelude.{Option, None, Some}
use Rattle.std.proofs.lemmas.List.{length-replicate}
use Rattle.std.proofs.lemmas.List.Filters.{length-filter_more}
use Rattle.labels.specs.Label.{is_used, used, row_beside}

-- The first i blocks have their rows, for which the first `next` of those that were given are taken, and the others have none yet.
-- There is room for all.
pub record Beside (given : List ℕ) (blocks : List (List ℕ)) (i next : ℕ) (rows : List (Option ℕ)) : Type 0 where
  pub count : next ≡ length (used (take i blocks))
  pub within : next ≤ i
  pub room : length blocks ≤ length rows
  pub before : (k : ℕ) → k < i → get_or rows k None ≡ row_beside given blocks k
  pub behind : (k : ℕ) → i ≤ k → get_or rows k None ≡ None

no_rows : (n k : ℕ) → get_or (replicate {A = Option ℕ} n None) k None ≡ None
no_rows zero k = refl
no_rows (suc n) zero = refl
no_rows (suc n) (suc k) = no_rows n k

pub none_yet : (given : List ℕ) (blocks : List (List ℕ)) (n : ℕ) → length blocks ≤ n → Beside given blocks 0 0 (replicate n None)
none_yet given blocks n h = record { count = refl; within = omega arith; room = rw length-replicate h; before = λ k h. absurd (omega arith); behind = λ k h. no_rows n k }

module _ {given : List ℕ} {blocks : List (List ℕ)} {i next : ℕ} {rows : List (Option ℕ)} (so_far : Beside given blocks i next rows) (h : i < length blocks) where
  pub taken : is_used (get_or blocks i []) ≡ true → Beside given blocks (i + 1) (next + 1) (set rows i (Some (get_or given next 0)))
  taken u =
      let l : i < length rows = omega (arith, so_far.room) in
      let more = rw u at (length-filter_more is_used blocks i [] h) in
      let here : get_or (set rows i (Some (get_or given next 0))) i None ≡ row_beside given blocks i = rw (u, get_or-set_same, so_far.count) in
      record {
        count = omega (arith, so_far.count, more);
        within = omega (arith, so_far.within);
        room = rw length-set so_far.room;
        before = below_more _ _ (λ k lt. let ne : k ≢ i = omega arith in rw get_or-set_other (so_far.before k lt)) here;
        behind = λ k le. let ne : k ≢ i = omega arith in rw get_or-set_other (so_far.behind k (omega arith));
      }

  pub passed_over : is_used (get_or blocks i []) ≡ false → Beside given blocks (i + 1) next rows
  passed_over u =
      let more = rw u at (length-filter_more is_used blocks i [] h) in
      let here : get_or rows i None ≡ row_beside given blocks i = rw u (so_far.behind i (omega arith)) in
      record {
        count = omega (arith, so_far.count, more);
        within = omega (arith, so_far.within);
        room = so_far.room;
        before = below_more _ _ so_far.before here;
        behind = λ k le. so_far.behind k (omega arith);
      }
