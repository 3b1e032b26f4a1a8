-- The table's rows: each rule is proved at all rows by one test that is computed.
use mathlib.Core.Path.{◌≡◌, refl}
use mathlib.Core.Bool.{Bool, true, false, cond}
use mathlib.Core.List.{List}
use mathlib.Core.Logic.{⊎_elim}
use Prim.Native.Nat.{ℕ, ◌-◌, ◌≤◌}
use native.Mathlib.Nat.{eq-zero-or-pos}
use native.Mathlib.Omega.{arith}
use lib.Dec.{eqb}
use lib.ListN.{get_or-eq_default}
use borrow.Author.Tests.{eqb-true, eq-eqb, ne_eqb}
use Rattle.room.specs.Room.{written}
use Rattle.rules.proofs.Below.{all_below, at}
use Rattle.sense.specs.Sense.{sense_data, nothing}
use Rattle.refusals.specs.Refusal.{table, no_row, row_of, refused_sense, no_status, busy, check_condition}
use Rattle.refusals.specs.Helpers.{Roomy}

-- Past the table there is no row.
pub row_past : (n : ℕ) → 24 ≤ n → row_of n ≡ no_row
unfolding row_of
row_past n h = get_or-eq_default table no_row {n = n} h

-- The status goes with the key: CHECK CONDITION where there is one; else BUSY for number 10, and none.
abbrev status_by : ℕ → ℕ → ℕ
status_by n key = cond (eqb key 0) (cond (eqb n 10) busy no_status) check_condition

pub status_is : (n : ℕ) → (row_of n).status ≡ status_by n (row_of n).key
unfolding row_of all_below
status_is n =
    ⊎_elim
    (λ z. rw (row_past n (omega arith), ne_eqb n 10 (λ e. omega arith)))
    (λ z. eqb-true _ _ (at (λ k. eqb (row_of k).status (status_by k (row_of k).key)) 24 refl n (omega arith)))
    (eq-zero-or-pos (24 - n))

-- What a refusal answers, by its key.
module _ (n : ℕ) where
  pub checks : ((row_of n).key ≡ 0 → ⊥) → (row_of n).status ≡ check_condition
  checks h = rw (status_is n, ne_eqb (row_of n).key 0 h)

  pub writes : (form : ℕ) (room : List ℕ) → ((row_of n).key ≡ 0 → ⊥) → refused_sense form n room ≡ written room 0 (sense_data form (row_of n).key (row_of n).asc (row_of n).ascq nothing)
  unfolding refused_sense
  writes form room h = rw (ne_eqb (row_of n).key 0 h)

  pub writes_nothing : (form : ℕ) (room : List ℕ) → (row_of n).key ≡ 0 → refused_sense form n room ≡ room
  unfolding refused_sense
  writes_nothing form room h = rw (eq-eqb (row_of n).key 0 h)

  pub busy_or_none : (row_of n).key ≡ 0 → (row_of n).status ≡ cond (eqb n 10) busy no_status
  busy_or_none h = rw (status_is n, eq-eqb (row_of n).key 0 h)

-- A refusal that writes has room for it, where sizes are looked at first: too little room is 1, which writes nothing.
pub roomy_unless : (wrong : Bool) (rest : ℕ) {number sense : ℕ} → (wrong ≡ false → 22 ≤ sense) → number ≡ cond wrong 1 rest → Roomy number sense
unfolding row_of
roomy_unless true rest enough n = λ h. absurd (h (rw n))
roomy_unless false rest enough n = λ h. enough refl
