-- What comes of a submission hangs on what is read of its command alone: it is worked out from that, and the rest is ignored.
use mathlib.Core.Path.{◌≡◌, refl, sym, ap, ◌∙◌}
use mathlib.Core.Bool.{Bool, true, false, cond, not, ◌&&◌, ◌||◌, and_assoc, and_comm, not-not}
use mathlib.Core.Logic.{⊎_elim}
use mathlib.Core.List.{List, [], ◌∷◌}
use Prim.Native.Nat.{ℕ, ◌^◌}
use lib.Dec.{eqb, ltb}
use lib.ListN.{length}
use borrow.Author.Tests.{eqb-true, eqb-false}
use Rattle.rules.specs.Bits.{flag}
use Rattle.rules.specs.First.{◌when◌, first}
use Rattle.rules.proofs.First.{neither}
use Rattle.identify.specs.Sector.{sector_size}
use Rattle.passthrough_fields.specs.Fields as Fields
use Rattle.passthrough_length.specs.Length.{block_size, lacking, bytes_in, length_of}
use Rattle.passthrough_order.specs.declared.Order.{Order}
use Rattle.passthrough_order.specs.Order.{without_data, from_drive, to_drive, with_data, reset, quiet_seconds, direction_of, reset_order, command_order, order_of}
use Rattle.passthrough_checks.specs.Checks as Checks
use Rattle.passthrough_checks.specs.Helpers.{early_refusal}
use Rattle.passthrough_checks.proofs.Laws.{data_by_length, refused_early}
use Rattle.buildable.proofs.Laws.{one_of}
use Rattle.passthrough.specs.Record.{nothing_pending, reset_pending}
use Rattle.passthrough.specs.Submit as Submit
use Rattle.passthrough.specs.Submit.{is_later, made, submit}
use Rattle.demands.specs.Read.{Flags, Read, quiet, of_command, read_of}
use Rattle.demands.specs.Promises.{Submission, outcome_of, sending}
use Rattle.demands.proofs.Order.{refusal}
use Rattle.demands.proofs.Counts.{reset_without, looked_at}

-- A reset has no data, and is not without either.
reset_no_data : (p : ℕ) → reset p ≡ true → without_data p ≡ false
reset_no_data p e = ⊎_elim (λ t. rw (eqb-true p 0 t)) (λ t. rw (eqb-true p 1 t)) (one_of (eqb p 0) (eqb p 1) e)

-- The outcome, worked out from what is read.
module _ (s : Submission) (r : Read) where
  abbrev unit : ℕ
  unit = cond r.flags.t_type_is (sector_size s.block) 512

  abbrev length_by : ℕ
  length_by =
      cond (eqb r.flags.t_length_is 0) 0
      (cond (eqb r.flags.t_length_is 1) (bytes_in r.flags.byte_block_is unit r.flags.features)
      (cond (eqb r.flags.t_length_is 2) (bytes_in r.flags.byte_block_is unit r.flags.count)
      s.declared))

  abbrev refusal_by : ℕ
  refusal_by =
      first
      ((1 when Checks.wrong_size (length s.registers) (length s.sense))
      ∷ (1 when Checks.wrong_block (is_later s.edition) (length s.block))
      ∷ (18 when Checks.damaged_block (is_later s.edition) s.block)
      ∷ (2 when r.empty)
      ∷ (3 when not r.served)
      ∷ (2 when not r.whole)
      ∷ (4 when r.naca)
      ∷ (20 when not r.own_action)
      ∷ (9 when Checks.wrong_protocol r.protocol)
      ∷ (10 when Checks.waits (not (nothing_pending s.record_given)) (reset_pending s.record_given) r.protocol)
      ∷ (11 when Checks.wrong_length r.protocol r.flags.t_length_is)
      ∷ (12 when Checks.wrong_direction r.protocol r.flags.t_dir_is)
      ∷ (6 when Checks.no_block r.protocol (r.flags.t_type_is && eqb (length s.block) 0))
      ∷ (13 when Checks.no_length r.protocol length_by)
      ∷ (14 when Checks.too_long r.protocol length_by s.declared)
      ∷ [])

  abbrev order_by : Order
  order_by =
      record {
        length = length_by;
        auxiliary = r.flags.auxiliary;
        features = r.flags.features;
        count = r.flags.count;
        lba_low = r.flags.lba_low_is;
        lba_mid = r.flags.lba_mid_is;
        lba_high = r.flags.lba_high_is;
        quiet_seconds = quiet_seconds r.flags.off_line_is;
        sectors_per_block = 2 ^ r.flags.multiple_count_is;
        device = r.flags.device;
        command = r.flags.command;
        protocol = r.protocol;
        ck_cond = flag r.flags.ck_cond_is;
        extend = flag r.flags.extend;
        direction = direction_of r.protocol r.flags.t_dir_is;
      }

  abbrev outcome_by : Submit.Outcome
  outcome_by =
      cond (eqb refusal_by 0)
      (cond (eqb r.protocol 15) (Submit.reported s.record_given s.registers s.form s.sense) (Submit.taken s.record_given order_by s.sense))
      (Submit.refused s.record_given s.form refusal_by s.sense)

-- Tests of data: T_DIR is looked at with data alone, and so is all that the length hangs on.
direction_with_data : (from to either dir : Bool) → (from && not dir || to && dir) ≡ (from && not ((from || to || either) && dir) || to && ((from || to || either) && dir))
direction_with_data true to either dir = refl
direction_with_data false true either dir = refl
direction_with_data false false either dir = refl

with_data_is : (d : Bool) {a b : Bool} → (d ≡ true → a ≡ b) → (d && a) ≡ (d && b)
with_data_is true h = h refl
with_data_is false h = refl

sectors_with_data : (later none type block points : Bool) → (later && none && (type && block && points)) ≡ (later && points && block && type && none)
sectors_with_data false none type block points = refl
sectors_with_data true true type block points = simp (and_comm, and_assoc)
sectors_with_data true false type block points = simp (and_comm, and_assoc)

-- The length of data, from what is read of the fields that it hangs on.
length_from : (later zero one two block type : Bool) (sector features count declared : ℕ)
    → cond zero 0 (cond one (bytes_in block (cond (later && type) sector 512) features) (cond two (bytes_in block (cond (later && type) sector 512) count) declared))
    ≡ cond zero 0 (cond one (bytes_in ((one || two) && block) (cond (later && (one || two) && block && type) sector 512) features) (cond two (bytes_in ((one || two) && block) (cond (later && (one || two) && block && type) sector 512) count) declared))
length_from later true one two block type sector features count declared = refl
length_from true false true two true type sector features count declared = refl
length_from false false true two true type sector features count declared = refl
length_from later false true two false type sector features count declared = refl
length_from true false false true true type sector features count declared = refl
length_from false false false true true type sector features count declared = refl
length_from later false false true false type sector features count declared = refl
length_from later false false false block type sector features count declared = refl

module _ (s : Submission) where
  abbrev c : List ℕ
  c = s.command

  abbrev p : ℕ
  p = Fields.protocol c

  abbrev later : Bool
  later = is_later s.edition

  abbrev read : Read
  read = read_of later c

  abbrev length_in : ℕ
  length_in = length_of (block_size later s.block c) c s.declared

  -- What the checks read of every command, with some flags.
  abbrev having : Flags → Read
  having flags =
      record {
        empty = eqb (length c) 0;
        served = not (Checks.wrong_opcode later c);
        whole = not (ltb (length c) (Fields.size c));
        naca = Fields.naca c;
        own_action = not (Checks.wrong_action c);
        protocol = p;
        flags = flags;
      }

  -- A command that is no report and no reset: with data the length is the same, and every test comes to the same.
  abbrev all : Read
  all = having (of_command later c)

  same_length : with_data p ≡ true → length_in ≡ length_by s all
  unfolding length_of
  same_length d =
      rw d (length_from later (eqb (Fields.t_length c) 0) (eqb (Fields.t_length c) 1) (eqb (Fields.t_length c) 2) (Fields.byte_block c) (Fields.t_type c) (sector_size s.block) (Fields.features_number c) (Fields.count_number c) s.declared)

  same_direction : Checks.wrong_direction p (Fields.t_dir c) ≡ Checks.wrong_direction p (with_data p && Fields.t_dir c)
  same_direction = direction_with_data (from_drive p) (to_drive p) (eqb p 6) (Fields.t_dir c)

  same_need : Checks.no_block p (lacking later s.block c) ≡ Checks.no_block p (all.flags.t_type_is && eqb (length s.block) 0)
  same_need =
      with_data_is (with_data p) (λ d. rw d (sectors_with_data later (eqb (length s.block) 0) (Fields.t_type c) (Fields.byte_block c) (eqb (Fields.t_length c) 1 || eqb (Fields.t_length c) 2)))

  same_none : Checks.no_length p length_in ≡ Checks.no_length p (length_by s all)
  same_none = with_data_is (with_data p) (λ d. ap (λ (n : ℕ). eqb n 0) (same_length d))

  same_excess : Checks.too_long p length_in s.declared ≡ Checks.too_long p (length_by s all) s.declared
  same_excess = with_data_is (with_data p) (λ d. ap (λ (n : ℕ). ltb s.declared n) (same_length d))

  refused_by_all : refusal s ≡ refusal_by s all
  unfolding Checks.refusal_of
  refused_by_all =
      rw (same_direction, same_need, same_none, same_excess, not-not (Checks.wrong_opcode later c), not-not (ltb (length c) (Fields.size c)), not-not (Checks.wrong_action c))

  -- A report or a reset: it has no data, and no test looks at its flags.
  refused_by_quiet : (off_line : ℕ) → with_data p ≡ false → without_data p ≡ false → refusal s ≡ refusal_by s (having (quiet off_line))
  unfolding Checks.refusal_of
  refused_by_quiet off_line d o =
      let none = neither (from_drive p) (to_drive p) (neither (from_drive p || to_drive p) (eqb p 6) d).0 in
      rw (d, o, none.0, none.1, not-not (Checks.wrong_opcode later c), not-not (ltb (length c) (Fields.size c)), not-not (Checks.wrong_action c))

  -- What is read, by the protocol.
  read_report : eqb p 15 ≡ true → read ≡ having (quiet 0)
  unfolding read_of
  read_report f = rw f

  read_reset : eqb p 15 ≡ false → reset p ≡ true → read ≡ having (quiet (Fields.off_line c))
  unfolding read_of
  read_reset f q = rw (f, q)

  read_all : eqb p 15 ≡ false → reset p ≡ false → read ≡ all
  unfolding read_of
  read_all f q = rw (f, q)

  refused_by_read : refusal s ≡ refusal_by s read
  refused_by_read = by (eqb p 15) (reset p) refl refl
    where
      by : (a b : Bool) → eqb p 15 ≡ a → reset p ≡ b → refusal s ≡ refusal_by s read
      by true b f q = rw (read_report f) (refused_by_quiet 0 (rw (eqb-true p 15 f)) (rw (eqb-true p 15 f)))
      by false true f q = rw (read_reset f q) (refused_by_quiet (Fields.off_line c) (reset_without p q) (reset_no_data p q))
      by false false f q = rw (read_all f q) refused_by_all

  -- The order of a command that is not refused: without data it points at no length.
  pub early_zero : refusal s ≡ 0 → early_refusal (not (nothing_pending s.record_given)) (reset_pending s.record_given) later c (length s.registers) s.block (length s.sense) ≡ 0
  early_zero e = by (eqb early 0) refl
    where
      early : ℕ
      early = early_refusal (not (nothing_pending s.record_given)) (reset_pending s.record_given) later c (length s.registers) s.block (length s.sense)

      by : (b : Bool) → eqb early 0 ≡ b → early ≡ 0
      by true t = eqb-true _ _ t
      by false t =
          sym (refused_early (not (nothing_pending s.record_given)) (reset_pending s.record_given) later c (length s.registers) s.block s.declared (length s.sense) (eqb-false _ _ t)) ∙ e

  taken_length : refusal s ≡ 0 → eqb p 15 ≡ false → reset p ≡ false → length_in ≡ length_by s all
  unfolding length_of
  taken_length e f q = by (eqb (Fields.t_length c) 0) refl
    where
      by : (b : Bool) → eqb (Fields.t_length c) 0 ≡ b → length_in ≡ length_by s all
      by true z = rw z
      by false z = same_length (data_by_length (not (nothing_pending s.record_given)) (reset_pending s.record_given) later c (length s.registers) s.block (length s.sense) (early_zero e) f q ∙ rw z)

  made_by_read : refusal s ≡ 0 → eqb p 15 ≡ false → made c s.block s.declared s.edition ≡ order_by s read
  unfolding order_of
  made_by_read e f = by (reset p) refl
    where
      by : (b : Bool) → reset p ≡ b → cond b (reset_order c) (command_order c length_in) ≡ order_by s read
      by true q = rw (read_reset f q, reset_without p q)
      by false q = rw (read_all f q, taken_length e f q, looked_at (with_data p) (Fields.t_dir c))

  pub outcome_by_read : outcome_of s ≡ outcome_by s read
  unfolding submit read_of
  outcome_by_read = rw (← refused_by_read) (by (eqb (refusal s) 0) (eqb p 15) refl refl)
    where
      either : Bool → Bool → Order → Submit.Outcome
      either a b order = cond a (cond b (Submit.reported s.record_given s.registers s.form s.sense) (Submit.taken s.record_given order s.sense)) (Submit.refused s.record_given s.form (refusal s) s.sense)

      by : (a b : Bool) → eqb (refusal s) 0 ≡ a → eqb p 15 ≡ b → either a b (made c s.block s.declared s.edition) ≡ either a b (order_by s read)
      by true true e f = refl
      by true false e f = ap (either true false) (made_by_read (eqb-true _ _ e) f)
      by false b e f = refl

pub read_alike : (s : Submission) (other : List ℕ) → read_of (is_later s.edition) other ≡ read_of (is_later s.edition) s.command → outcome_of (sending other s) ≡ outcome_of s
read_alike s other e = outcome_by_read (sending other s) ∙ rw e (sym (outcome_by_read s))
