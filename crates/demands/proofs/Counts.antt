-- Orders and what counts of a command, there and back (the builder).
use mathlib.Core.Path.{◌≡◌, refl}
use mathlib.Core.Bool.{Bool, true, false, cond, ◌&&◌}
use mathlib.Core.Logic.{◌⊎◌, ⊎_elim}
use mathlib.Core.List.{List}
use Prim.Native.Nat.{ℕ, ◌^◌, ◌<◌}
use native.Mathlib.Omega.{arith}
use lib.Dec.{eqb}
use borrow.Author.Tests.{eqb-true}
use Rattle.rules.specs.Bits.{flag}
use Rattle.passthrough_fields.specs.Fields as Fields
use Rattle.passthrough_length.specs.Length.{length_of}
use Rattle.passthrough_order.specs.declared.Order.{Order}
use Rattle.passthrough_order.specs.Order.{with_data, reset, direction_of, quiet_seconds, reset_order, command_order, order_of}
use Rattle.buildable.specs.Fields.{off_line_for, multiple_count_for}
use Rattle.buildable.proofs.Laws.{one_of}
use Rattle.buildable.proofs.Inverse.{off_line_back, multiple_count_back, flag_back}
use Rattle.demands.specs.Counts.{Counts, of_reset, of_command, counts_of, points_at}

-- The order that what counts of a command comes to, with its length.
abbrev pub order_with : Counts → ℕ → Order
order_with k length =
    record {
      length = length;
      auxiliary = 0;
      features = k.features;
      count = k.count;
      lba_low = k.lba_low_is;
      lba_mid = k.lba_mid_is;
      lba_high = k.lba_high_is;
      quiet_seconds = quiet_seconds k.off_line_is;
      sectors_per_block = 2 ^ k.multiple_count_is;
      device = k.device;
      command = k.command;
      protocol = k.protocol;
      ck_cond = flag k.ck_cond_is;
      extend = flag k.extend;
      direction = direction_of k.protocol k.t_dir_is;
    }

-- And what counts of a command that makes an order.
abbrev pub counts_in : Order → Counts
counts_in o =
    record {
      protocol = o.protocol;
      off_line_is = off_line_for o.quiet_seconds;
      multiple_count_is = multiple_count_for o.sectors_per_block;
      extend = eqb o.extend 1;
      ck_cond_is = eqb o.ck_cond 1;
      t_dir_is = eqb o.direction 1;
      features = o.features;
      count = o.count;
      lba_low_is = o.lba_low;
      lba_mid_is = o.lba_mid;
      lba_high_is = o.lba_high;
      device = o.device;
      command = o.command;
    }

-- A reset has no data.
pub reset_without : (p : ℕ) → reset p ≡ true → with_data p ≡ false
reset_without p e = ⊎_elim (λ t. rw (eqb-true p 0 t)) (λ t. rw (eqb-true p 1 t)) (one_of (eqb p 0) (eqb p 1) e)

-- Neither form has an auxiliary number.
pub no_auxiliary : (c : List ℕ) → Fields.longest c ≡ false → Fields.auxiliary c ≡ 0
no_auxiliary c n = rw n

-- T_DIR is looked at with data alone.
pub looked_at : (d t : Bool) → ◌≡◌ {A = ℕ} (cond d (cond t 1 2) 0) (cond d (cond (d && t) 1 2) 0)
looked_at true t = refl
looked_at false t = refl

-- A command's order is that of what counts, and of the length that it points at: in the two forms that the first edition has.
pub order_by_counts : (c : List ℕ) (declared : ℕ) → Fields.longest c ≡ false → order_of c (length_of 512 c declared) ≡ order_with (counts_of c) (points_at c declared)
unfolding order_of counts_of points_at
order_by_counts c declared n = by (reset (Fields.protocol c)) refl
  where
    by : (b : Bool) → reset (Fields.protocol c) ≡ b → cond b (reset_order c) (command_order c (length_of 512 c declared)) ≡ order_with (cond b (of_reset c) (of_command c)) (cond b 0 (length_of 512 c declared))
    by true e = rw (reset_without (Fields.protocol c) e)
    by false e = rw (looked_at (with_data (Fields.protocol c)) (Fields.t_dir c), no_auxiliary c n)

-- What counts has the width of its fields, and no T_DIR without data.
pub record Proper (k : Counts) : Type 0 where
  pub off_line_is : k.off_line_is < 4
  pub multiple_count_is : k.multiple_count_is < 8
  pub t_dir_is : with_data k.protocol ≡ false → k.t_dir_is ≡ false

pub proper : (c : List ℕ) → Proper (counts_of c)
unfolding counts_of
proper c = by (reset (Fields.protocol c))
  where
    by : (b : Bool) → Proper (cond b (of_reset c) (of_command c))
    by true = record { off_line_is = omega arith; multiple_count_is = omega arith; t_dir_is = λ e. refl }
    by false = record { off_line_is = omega arith; multiple_count_is = omega arith; t_dir_is = λ e. rw e }

-- T_DIR comes back from the direction.
t_dir_back : (b t : Bool) → (b ≡ false → t ≡ false) → eqb (cond b (cond t 1 2) 0) 1 ≡ t
t_dir_back true true h = refl
t_dir_back true false h = refl
t_dir_back false t h = rw (h refl)

-- So what counts comes back from its order.
pub counts_back : (k : Counts) (length : ℕ) → Proper k → counts_in (order_with k length) ≡ k
counts_back k length w =
    rw (off_line_back k.off_line_is w.off_line_is, multiple_count_back k.multiple_count_is w.multiple_count_is, flag_back k.extend, flag_back k.ck_cond_is, t_dir_back (with_data k.protocol) k.t_dir_is w.t_dir_is)
