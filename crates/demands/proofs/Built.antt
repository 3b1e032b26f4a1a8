-- The builder: what it builds is accepted and gives the order back, and it builds every order that some command makes.
use mathlib.Core.Path.{◌≡◌, refl, sym, ap, ◌∙◌}
use mathlib.Core.Bool.{Bool, true, false, cond, ◌&&◌, ◌||◌, not, true≢false, and-eq-true_iff, and-true, and-false}
use mathlib.Core.Logic.{◌⊎◌, inl, inr, ⊎_elim}
use mathlib.Core.List.{List, [], ◌∷◌, ◌++◌}
use Prim.Native.Nat.{ℕ, zero, suc, ◌+◌, ◌*◌, ◌%◌, ◌^◌, ◌<◌}
use native.Mathlib.Nat.{le_refl, zero-add}
use native.Mathlib.Omega.{arith}
use lib.Dec.{eqb, ltb}
use lib.ListN.{length, get_or, take, replicate}
use borrow.Author.Tests.{eqb-true, eqb-false, eq-eqb, ne_eqb, lt-ltb, le-ltb, not-true, not-false}
use Rattle.rules.specs.Bits.{flag}
use Rattle.rules.specs.First.{Check, first}
use Rattle.rules.proofs.First.{Silent, silent, neither}
use Rattle.passthrough_fields.specs.Fields as Fields
use Rattle.passthrough_length.specs.Length.{length_of}
use Rattle.passthrough_order.specs.declared.Order.{Order}
use Rattle.passthrough_order.specs.Order.{without_data, from_drive, to_drive, with_data, reset, quiet_seconds, reset_order, command_order, order_of}
use Rattle.passthrough_checks.specs.Checks.{wrong_size, wrong_action, wrong_protocol, wrong_length, wrong_direction, no_length, too_long, checks_of, refusal_of}
use Rattle.buildable.specs.Fields.{off_line_for, multiple_count_for, length_bits}
use Rattle.buildable.specs.Buildable.{every, without_upper, has_direction, data_fit, of_command, of_reset, tests, buildable}
use Rattle.builder.specs.Builder.{short, long, built, build}
use Rattle.buildable.proofs.Laws.{Each, each, every_of, one_of, small}
use Rattle.rules.proofs.Below.{all_below, at}
use Rattle.buildable.proofs.Inverse.{off_line_back, multiple_count_back}
use Rattle.passthrough.specs.Record.{nothing_pending, reset_pending}
use Rattle.passthrough.specs.Submit as Submit
use Rattle.passthrough.specs.Submit.{submit}
use Rattle.demands.specs.Counts.{counts_of, points_at}
use Rattle.demands.specs.Promises.{Submission, order_from, sent, BuiltReadsBack, Makes, BuiltExactlyWhen, SameOrderSameFields}
use Rattle.demands.proofs.Runs.{none_answers}
use Rattle.demands.proofs.Order as Submitted
use Rattle.demands.proofs.Waiting.{none_waits}
use Rattle.demands.proofs.Counts.{reset_without, no_auxiliary, order_with, counts_in, order_by_counts, proper, counts_back}
use Rattle.demands.proofs.ReadBack.{ReadsAs, short_reads, long_reads, reads_length, reads_order, Data, with_fit}
use Rattle.identify.specs.Bytes.{Bytes, no_more, more}

-- What a protocol's number says, tried for each number that PROTOCOL can be.
implies : (a b : Bool) → (not a || b) ≡ true → a ≡ true → b ≡ true
implies a b h e = rw e at h

-- Resets, and protocols that are served, are no wrong ones.
known_right : (p : ℕ) → p < 12 → (reset p || (without_data p || with_data p)) ≡ true → not (wrong_protocol p) ≡ true
unfolding all_below
known_right p l = implies _ _ (at (λ j. not (reset j || (without_data j || with_data j)) || not (wrong_protocol j)) 12 refl p l)

-- And a protocol that is not wrong, is no report and no reset is served.
right_known : (p : ℕ) → p < 16 → wrong_protocol p ≡ false → eqb p 15 ≡ false → reset p ≡ false → (without_data p || with_data p) ≡ true
unfolding all_below
right_known p l w f r =
    implies true _ (rw (w, f, r) at (at (λ j. not (not (wrong_protocol j) && not (eqb j 15) && not (reset j)) || (without_data j || with_data j)) 16 refl p l)) refl

-- A protocol with data is none without, and the other way round.
data_or_not : (p : ℕ) → p < 16 → with_data p ≡ true → without_data p ≡ false
unfolding all_below
data_or_not p l e = not-true _ (implies _ _ (at (λ j. not (with_data j) || not (without_data j)) 16 refl p l) e)

-- T_LENGTH points at something exactly where there is a length.
points_somewhere : (l c f : ℕ) → eqb (length_bits l c f % 4) 0 ≡ eqb l 0
points_somewhere l c f = by (eqb l 0) (eqb l (512 * c)) (eqb l c) (eqb l (512 * f)) (eqb l f)
  where
    by : (a b d e g : Bool) → eqb (cond a 0 (cond b 6 (cond d 2 (cond e 5 (cond g 1 3)))) % 4) 0 ≡ a
    by true b d e g = refl
    by false true d e g = refl
    by false false true e g = refl
    by false false false true g = refl
    by false false false false true = refl
    by false false false false false = refl

either_way : (a : Bool) → (a && false || false) ≡ false
either_way true = refl
either_way false = refl

-- 11, 12, 13 and 14 do not apply to data that fit.
module _ (o : Order) (low : o.protocol < 16) where
  right_length : (d : Bool) → with_data o.protocol ≡ d → Data o d → wrong_length o.protocol (length_bits o.length o.count o.features % 4) ≡ false
  right_length true e w = rw (data_or_not o.protocol low e, e, points_somewhere o.length o.count o.features, w.length)
  right_length false e w = rw (e, points_somewhere o.length o.count o.features, w.length) (either_way (without_data o.protocol))

  right_direction : (d : Bool) → with_data o.protocol ≡ d → Data o d → wrong_direction o.protocol (eqb o.direction 1) ≡ false
  right_direction true e w = by (eqb o.direction 1) (w.has refl)
    where
      by : (b : Bool) → cond b (not (to_drive o.protocol)) (eqb o.direction 2 && not (from_drive o.protocol)) ≡ true → wrong_direction o.protocol b ≡ false
      by true h = rw (not-true (to_drive o.protocol) h) (either_way (from_drive o.protocol))
      by false h = rw (not-true (from_drive o.protocol) ((and-eq-true_iff (eqb o.direction 2) (not (from_drive o.protocol))).0 h).1) (and-false (to_drive o.protocol))
  right_direction false e w =
      let none = neither (from_drive o.protocol) (to_drive o.protocol) (neither (from_drive o.protocol || to_drive o.protocol) (eqb o.protocol 6) e).0 in
      rw (none.0, none.1)

  some_length : (d : Bool) → with_data o.protocol ≡ d → Data o d → no_length o.protocol o.length ≡ false
  some_length true e w = rw (e, w.length)
  some_length false e w = rw e

  not_too_long : too_long o.protocol o.length o.length ≡ false
  not_too_long = rw (le-ltb o.length o.length (le_refl o.length)) (and-false (with_data o.protocol))

-- The forms of the first edition have one command each.
no_action : (c : List ℕ) → Fields.longest c ≡ false → wrong_action c ≡ false
no_action c n = rw n

-- A command that reads as an order that can be built is refused by no check, with nothing pending and the order's length declared.
module _ (c : List ℕ) (o : Order) (r : ReadsAs c o) (e : buildable o ≡ true) (registers : ℕ) (block : List ℕ) (sense : ℕ) (sized : wrong_size registers sense ≡ false) where
  low : o.protocol < 12
  low = (small o e).protocol

  pub not_refused : refusal_of false false false c registers block o.length sense ≡ 0
  unfolding refusal_of buildable
  not_refused = none_answers (checks_of false false false c registers block o.length sense) (by (reset o.protocol) refl (each (tests o) e).1.1.0)
    where
      all : (reset o.protocol || (without_data o.protocol || with_data o.protocol)) ≡ true → wrong_length o.protocol (length_bits o.length o.count o.features % 4) ≡ false → wrong_direction o.protocol (eqb o.direction 1) ≡ false → no_length o.protocol o.length ≡ false → Silent (checks_of false false false c registers block o.length sense)
      all k h11 h12 h13 =
          rw (r.protocol, r.t_length_is, r.t_dir_is, reads_length c o r)
          (sized, (refl, (refl, (r.some, (r.opcode, (r.whole, (r.naca, (no_action c r.two_forms, (not-true _ (known_right o.protocol low k), (none_waits o.protocol, (h11, (h12, (and-false (with_data o.protocol), (h13, (not_too_long o (omega arith), tt)))))))))))))))

      by : (b : Bool) → reset o.protocol ≡ b → cond b (every (of_reset o)) (every (of_command o)) ≡ true → Silent (checks_of false false false c registers block o.length sense)
      by true t h =
          let g = each (of_reset o) h in
          let n = reset_without o.protocol t in
          let w = with_fit o false ((and-eq-true_iff (eqb o.length 0) (eqb o.direction 0)).1 (g.0, g.1.1.1.1.1.1.1.1.1.1.1.0)) in
          all (rw t) (right_length o (omega arith) false n w) (right_direction o (omega arith) false n w) (some_length o (omega arith) false n w)
      by false t h =
          let g = each (of_command o) h in
          let w = with_fit o (with_data o.protocol) g.1.1.1.1.1.0 in
          all (rw (t, g.0)) (right_length o (omega arith) (with_data o.protocol) refl w) (right_direction o (omega arith) (with_data o.protocol) refl w) (some_length o (omega arith) (with_data o.protocol) refl w)

flag_fits : (b : Bool) → ltb (flag b) 2 ≡ true
flag_fits true = refl
flag_fits false = refl

one : (n : ℕ) → n < 2 → (n ≡ 0 → ⊥) → n ≡ 1
one n h z = eqb-true n 1 (by (eqb n 1) refl)
  where
    by : (b : Bool) → eqb n 1 ≡ b → eqb n 1 ≡ true
    by true t = t
    by false t = absurd (z (omega (arith, eqb-false n 1 t)))

no_fifteen : (p : ℕ) → p < 12 → p ≡ 15 → ⊥
no_fifteen p h e = omega arith

-- A byte of a command of bytes, and the byte of a field.
pub byte_low : {c : List ℕ} → Bytes c → (i : ℕ) → get_or c i 0 < 0x100
byte_low no_more i = omega arith
byte_low (more h b) zero = h
byte_low (more h b) (suc i) = byte_low b i

placed_low : {c : List ℕ} → Bytes c → (i j k : ℕ) (l m : Bool) → cond l (get_or c k 0) (cond m (get_or c j 0) (get_or c i 0)) < 0x100
placed_low b i j k true m = byte_low b k
placed_low b i j k false true = byte_low b j
placed_low b i j k false false = byte_low b i

-- A register without its upper byte is one byte.
register_low : (c : List ℕ) → Bytes c → (i : ℕ) → Fields.extend c ≡ false → Fields.register i c < 0x100
register_low c b i e = rw (e, zero-add) (placed_low b (3 + i) (4 + 2 * i) (Fields.lower_at i) (Fields.longest c) (Fields.long c))

-- The order that a command makes, of which no check was heard, can be built.
module _ (pending reset_pending : Bool) (c : List ℕ) (registers : ℕ) (block : List ℕ) (declared sense : ℕ) (quiet : Silent (checks_of pending reset_pending false c registers block declared sense)) (no_report : Fields.protocol c ≡ 15 → ⊥) (bytes : Bytes c) where
  abbrev p : ℕ
  p = Fields.protocol c

  pub two_forms : Fields.longest c ≡ false
  two_forms = by (Fields.longest c) quiet.1.1.1.1.0
    where
      by : (b : Bool) → cond b true (not (Fields.long c || eqb (get_or c 0 0) 0xA1)) ≡ false → b ≡ false
      by true h = h
      by false h = refl

  right : wrong_protocol p ≡ false
  right = quiet.1.1.1.1.1.1.1.1.0

  served : reset p ≡ false → (without_data p || with_data p) ≡ true
  served t = right_known p (omega arith) right (ne_eqb p 15 no_report) t

  nothing_pointed_at : eqb (Fields.t_length c) 0 ≡ true → eqb (length_of 512 c declared) 0 ≡ true
  unfolding length_of
  nothing_pointed_at e = rw e

  -- 12 and 13 leave data a length and a direction; 11 leaves no length without data.
  with_data_is : with_data p ≡ true → (not (eqb (length_of 512 c declared) 0) && has_direction p (cond (Fields.t_dir c) 1 2)) ≡ true
  with_data_is d =
      let some : eqb (length_of 512 c declared) 0 ≡ false = rw d at quiet.1.1.1.1.1.1.1.1.1.1.1.1.1.0 in
      rw some (by (Fields.t_dir c) quiet.1.1.1.1.1.1.1.1.1.1.1.0)
    where
      by : (t : Bool) → wrong_direction p t ≡ false → has_direction p (cond t 1 2) ≡ true
      by true h = rw (sym (and-true (to_drive p)) ∙ (neither (from_drive p && false) (to_drive p && true) h).1)
      by false h = rw (sym (and-true (from_drive p)) ∙ (neither (from_drive p && true) (to_drive p && false) h).0)

  without_data_is : with_data p ≡ false → reset p ≡ false → eqb (length_of 512 c declared) 0 ≡ true
  without_data_is d t =
      let w : without_data p ≡ true = ⊎_elim (λ h. h) (λ h. absurd (true≢false (sym h ∙ d))) (one_of (without_data p) (with_data p) (served t)) in
      nothing_pointed_at (not-false (eqb (Fields.t_length c) 0) (neither _ _ (rw (w, d) at quiet.1.1.1.1.1.1.1.1.1.1.0)).0)

  data_fits : reset p ≡ false → data_fit (command_order c (length_of 512 c declared)) ≡ true
  data_fits t = by (with_data p) refl
    where
      by : (d : Bool) → with_data p ≡ d → cond d (not (eqb (length_of 512 c declared) 0) && has_direction p (cond d (cond (Fields.t_dir c) 1 2) 0)) (eqb (length_of 512 c declared) 0 && eqb (cond d (cond (Fields.t_dir c) 1 2) 0) 0) ≡ true
      by true d = with_data_is d
      by false d = rw (without_data_is d t)

  upper_fits : (b : Bool) → Fields.extend c ≡ b → (eqb (flag b) 1 || every (without_upper (command_order c (length_of 512 c declared)))) ≡ true
  upper_fits true e = refl
  upper_fits false e =
      every_of (without_upper (command_order c (length_of 512 c declared))) (lt-ltb _ _ (register_low c bytes 0 e), (lt-ltb _ _ (register_low c bytes 1 e), (lt-ltb _ _ (register_low c bytes 2 e), (lt-ltb _ _ (register_low c bytes 3 e), (lt-ltb _ _ (register_low c bytes 4 e), tt)))))

  off_line_fits : ltb (off_line_for (quiet_seconds (Fields.off_line c))) 4 ≡ true
  off_line_fits = rw (off_line_back (Fields.off_line c) (omega arith)) (lt-ltb (Fields.off_line c) 4 (omega arith))

  sectors_fit : ltb (multiple_count_for (2 ^ Fields.multiple_count c)) 8 ≡ true
  sectors_fit = rw (multiple_count_back (Fields.multiple_count c) (omega arith)) (lt-ltb (Fields.multiple_count c) 8 (omega arith))

  pub can_be_built : buildable (order_of c (length_of 512 c declared)) ≡ true
  unfolding buildable order_of
  can_be_built = by (reset p) refl
    where
      by : (b : Bool) → reset p ≡ b → every (tests (cond b (reset_order c) (command_order c (length_of 512 c declared)))) ≡ true
      by true t = rw (off_line_fits, t)
      by false t =
          let fit : every (of_command (command_order c (length_of 512 c declared))) ≡ true = every_of (of_command (command_order c (length_of 512 c declared))) (served t, (flag_fits (Fields.ck_cond c), (flag_fits (Fields.extend c), (upper_fits (Fields.extend c) refl, (sectors_fit, (data_fits t, tt)))))) in
          rw (no_auxiliary c two_forms, off_line_fits, t) (every_of (every (of_command (command_order c (length_of 512 c declared))) ∷ []) (fit, tt))

-- What is built makes its order.
number_0 : (o : Order) → (build o).number ≡ 0 → buildable o ≡ true
unfolding build
number_0 o e = by (buildable o) (eqb o.extend 0) e
  where
    by : (b x : Bool) → (cond b (cond x (built 0 12 (short o ++ replicate 4 0x00)) (built 0 16 (long o))) (built 23 0 (replicate 16 0x00))).number ≡ 0 → b ≡ true
    by true x h = refl
    by false x h = absurd (eqb-false 23 0 refl h)

number_of_built : (o : Order) → buildable o ≡ true → (build o).number ≡ 0
unfolding build
number_of_built o e = rw e (by (eqb o.extend 0))
  where
    by : (x : Bool) → (cond x (built 0 12 (short o ++ replicate 4 0x00)) (built 0 16 (long o))).number ≡ 0
    by true = refl
    by false = refl

number_of_refused : (o : Order) → buildable o ≡ false → (build o).number ≡ 23
unfolding build
number_of_refused o e = rw e

module _ (o : Order) (e : buildable o ≡ true) where
  -- Without EXTEND there is no upper byte.
  lower_only : o.extend ≡ 0 → Each (without_upper o)
  unfolding buildable
  lower_only x = by (reset o.protocol) (each (tests o) e).1.1.0
    where
      zero_low : (n : ℕ) → eqb n 0 ≡ true → ltb n 0x100 ≡ true
      zero_low n h = rw (eqb-true n 0 h)

      by : (b : Bool) → cond b (every (of_reset o)) (every (of_command o)) ≡ true → Each (without_upper o)
      by true h =
          let g = (each (of_reset o) h).1 in
          (zero_low o.features g.0, (zero_low o.count g.1.0, (zero_low o.lba_low g.1.1.0, (zero_low o.lba_mid g.1.1.1.0, (zero_low o.lba_high g.1.1.1.1.0, tt)))))
      by false h = each (without_upper o) (rw x at (each (of_command o) h).1.1.1.0)

  sent_reads : ReadsAs (sent o) o
  unfolding build
  sent_reads = rw e (by (eqb o.extend 0) refl)
    where
      by : (b : Bool) → eqb o.extend 0 ≡ b → ReadsAs (take (cond b (built 0 12 (short o ++ replicate 4 0x00)) (built 0 16 (long o))).size (cond b (built 0 12 (short o ++ replicate 4 0x00)) (built 0 16 (long o))).command) o
      by true t = short_reads o (small o e) (eqb-true _ _ t) (lower_only (eqb-true _ _ t))
      by false t =
          let s = small o e in
          let n = eqb-false o.extend 0 t in
          long_reads o s (one o.extend s.extend n)

pub built_reads_back : BuiltReadsBack
unfolding submit
built_reads_back o registers block edition form sense e first l r =
    let b = number_0 o e in
    let reads = sent_reads o b in
    let fine = not_refused (sent o) o reads b (length registers) block (length sense) (rw (eq-eqb _ _ l, le-ltb _ _ r)) in
    rw (first, fine, reads_length (sent o) o reads, reads.protocol, ne_eqb o.protocol 15 (λ q. no_fifteen o.protocol (small o b).protocol q), reads_order (sent o) o reads b)

-- No check was heard of a command that makes an order.
module _ (s : Submission) (m : Makes s) where
  abbrev heard : List Check
  heard = checks_of (not (nothing_pending s.record_given)) (reset_pending s.record_given) false s.command (length s.registers) s.block s.declared (length s.sense)

  unheard : Silent heard
  unfolding refusal_of
  unheard = silent heard refl (rw m.first_edition at (Submitted.zero s m.accepted))

  made_order : order_from s ≡ order_of s.command (length_of 512 s.command s.declared)
  made_order =
      let w = ap (λ (x : Submit.Outcome). x.submitted.taken.order) (Submitted.taken s m.accepted m.no_report) in
      rw m.first_edition at w

  builds : (build (order_from s)).number ≡ 0
  builds = rw made_order (number_of_built _ (can_be_built (not (nothing_pending s.record_given)) (reset_pending s.record_given) s.command (length s.registers) s.block s.declared (length s.sense) unheard m.no_report m.bytes))

  by_counts : order_from s ≡ order_with (counts_of s.command) (points_at s.command s.declared)
  by_counts = made_order ∙ order_by_counts s.command s.declared (two_forms (not (nothing_pending s.record_given)) (reset_pending s.record_given) s.command (length s.registers) s.block s.declared (length s.sense) unheard m.no_report m.bytes)

number_is : (o : Order) (b : Bool) → buildable o ≡ b → ((build o).number ≡ 0) ⊎ ((build o).number ≡ 23)
number_is o true e = inl (number_of_built o e)
number_is o false e = inr (number_of_refused o e)

pub built_exactly_when : BuiltExactlyWhen
built_exactly_when =
    record {
      built_or_23 = λ o. number_is o (buildable o) refl;
      refused_if_none = λ o e s m q. eqb-false 23 0 refl (sym e ∙ ap (λ (x : Order). (build x).number) (sym q) ∙ builds s m);
      built_if_some = builds;
    }

-- What counts comes back from the order.
counts_in_is : (c : List ℕ) (declared : ℕ) → counts_in (order_with (counts_of c) (points_at c declared)) ≡ counts_of c
counts_in_is c declared = counts_back (counts_of c) (points_at c declared) (proper c)

pub same_order_same_fields : SameOrderSameFields
same_order_same_fields s t ms mt =
    let ws = by_counts s ms in
    let wt = by_counts t mt in (
      λ e.
          let same = sym ws ∙ e ∙ wt in
          (sym (counts_in_is s.command s.declared) ∙ ap counts_in same ∙ counts_in_is t.command t.declared, ap (λ (x : Order). x.length) same),
      λ both. ws ∙ rw (both.0, both.1) (sym wt),
    )
