-- A built command reads as its order: its fields, form by form, and then the order and the checks over any command that has them.
use mathlib.Core.Path.{◌≡◌, refl, sym, ap, ◌∙◌}
use mathlib.Core.Bool.{Bool, true, false, cond, ◌&&◌, not, true≢false, and-eq-true_iff}
use mathlib.Core.List.{List}
use Prim.Native.Nat.{ℕ, ◌+◌, ◌*◌, ◌/◌, ◌%◌, ◌^◌, ◌<◌}
use native.Mathlib.Omega.{arith}
use lib.Dec.{eqb, ltb}
use lib.ListN.{length}
use borrow.Author.Tests.{eqb-true, ltb-true, eq-eqb, not-true}
use Rattle.rules.specs.Bits.{bit, bits, flag}
use Rattle.passthrough_fields.specs.Fields as Fields
use Rattle.passthrough_length.specs.Length.{length_of}
use Rattle.passthrough_order.specs.declared.Order.{Order}
use Rattle.passthrough_order.specs.Order.{from_drive, to_drive, with_data, reset, direction_of, quiet_seconds, order_of}
use Rattle.passthrough_checks.specs.Checks.{wrong_opcode}
use Rattle.buildable.specs.Fields.{off_line_for, multiple_count_for, length_bits}
use Rattle.buildable.specs.Buildable.{every, without_upper, has_direction, of_command, of_reset, tests, buildable}
use Rattle.builder.specs.Builder.{first_flags, second_flags, short, long}
use Rattle.buildable.proofs.Laws.{Each, each, Small, small, flag_low, length_bits_low}
use Rattle.demands.proofs.Counts.{no_auxiliary}
use Rattle.buildable.proofs.Inverse.{quiet_back, sectors_back, yes_back, flag_back, length_back}

-- A command reads as an order: every field of it says what the order says.
pub record ReadsAs (c : List ℕ) (o : Order) : Type 0 where
  pub some : eqb (length c) 0 ≡ false
  pub opcode : wrong_opcode false c ≡ false
  pub two_forms : Fields.longest c ≡ false
  pub whole : ltb (length c) (Fields.size c) ≡ false
  pub naca : Fields.naca c ≡ false
  pub protocol : Fields.protocol c ≡ o.protocol
  pub multiple_count_is : Fields.multiple_count c ≡ multiple_count_for o.sectors_per_block
  pub extend : Fields.extend c ≡ eqb o.extend 1
  pub off_line_is : Fields.off_line c ≡ off_line_for o.quiet_seconds
  pub ck_cond_is : Fields.ck_cond c ≡ eqb o.ck_cond 1
  pub t_dir_is : Fields.t_dir c ≡ eqb o.direction 1
  pub byte_block_is : Fields.byte_block c ≡ bit 2 (length_bits o.length o.count o.features)
  pub t_length_is : Fields.t_length c ≡ length_bits o.length o.count o.features % 4
  pub features : Fields.register 0 c ≡ o.features
  pub count : Fields.register 1 c ≡ o.count
  pub lba_low_is : Fields.register 2 c ≡ o.lba_low
  pub lba_mid_is : Fields.register 3 c ≡ o.lba_mid
  pub lba_high_is : Fields.register 4 c ≡ o.lba_high
  pub device : Fields.device c ≡ o.device
  pub command : Fields.ata_command c ≡ o.command

-- The two bytes of flags, taken apart.
module _ (m p e : ℕ) (hm : m < 8) (hp : p < 12) (he : e < 2) where
  first_protocol : bits 4 1 (0x20 * m + 2 * p + e) ≡ p
  first_protocol = omega arith

  first_multiple : bits 7 5 (0x20 * m + 2 * p + e) ≡ m
  first_multiple = omega arith

  first_extend : bit 0 (0x20 * m + 2 * p + e) ≡ eqb e 1
  first_extend =
      let h : (0x20 * m + 2 * p + e) / 2 ^ 0 % 2 ≡ e = omega arith in
      rw h

module _ (q k f l : ℕ) (hq : q < 4) (hk : k < 2) (hf : f < 2) (hl : l < 8) where
  second_off_line : bits 7 6 (0x40 * q + 0x20 * k + 8 * f + l) ≡ q
  second_off_line = omega arith

  second_ck_cond : bit 5 (0x40 * q + 0x20 * k + 8 * f + l) ≡ eqb k 1
  second_ck_cond =
      let h : (0x40 * q + 0x20 * k + 8 * f + l) / 2 ^ 5 % 2 ≡ k = omega arith in
      rw h

  second_t_dir : bit 3 (0x40 * q + 0x20 * k + 8 * f + l) ≡ eqb f 1
  second_t_dir =
      let h : (0x40 * q + 0x20 * k + 8 * f + l) / 2 ^ 3 % 2 ≡ f = omega arith in
      rw h

  second_byte_block : bit 2 (0x40 * q + 0x20 * k + 8 * f + l) ≡ bit 2 l
  second_byte_block =
      let h : (0x40 * q + 0x20 * k + 8 * f + l) / 2 ^ 2 % 2 ≡ l / 2 ^ 2 % 2 = omega arith in
      rw h

  second_t_length : bits 1 0 (0x40 * q + 0x20 * k + 8 * f + l) ≡ l % 4
  second_t_length = omega arith

-- A register of one byte, and of two.
one_byte : (n : ℕ) → n < 0x100 → 0x100 * 0 + n % 0x100 ≡ n
one_byte n h = omega arith

two_bytes : (n : ℕ) → 0x100 * (n / 0x100) + n % 0x100 ≡ n
two_bytes n = omega arith

module _ (o : Order) (s : Small o) where
  abbrev multiple : ℕ
  multiple = multiple_count_for o.sectors_per_block

  abbrev quiet : ℕ
  quiet = off_line_for o.quiet_seconds

  abbrev from : ℕ
  from = flag (eqb o.direction 1)

  abbrev points : ℕ
  points = length_bits o.length o.count o.features

  from_low : from < 2
  from_low = flag_low (eqb o.direction 1)

  points_low : points < 8
  points_low = length_bits_low o.length o.count o.features

  protocol_read : bits 4 1 (first_flags o) ≡ o.protocol
  protocol_read = first_protocol multiple o.protocol o.extend s.multiple_count_is s.protocol s.extend

  multiple_read : bits 7 5 (first_flags o) ≡ multiple
  multiple_read = first_multiple multiple o.protocol o.extend s.multiple_count_is s.protocol s.extend

  extend_read : bit 0 (first_flags o) ≡ eqb o.extend 1
  extend_read = first_extend multiple o.protocol o.extend s.multiple_count_is s.protocol s.extend

  off_line_read : bits 7 6 (second_flags o) ≡ quiet
  off_line_read = second_off_line quiet o.ck_cond from points s.off_line_is s.ck_cond_is from_low points_low

  ck_cond_read : bit 5 (second_flags o) ≡ eqb o.ck_cond 1
  ck_cond_read = second_ck_cond quiet o.ck_cond from points s.off_line_is s.ck_cond_is from_low points_low

  t_dir_read : bit 3 (second_flags o) ≡ eqb o.direction 1
  t_dir_read = second_t_dir quiet o.ck_cond from points s.off_line_is s.ck_cond_is from_low points_low ∙ flag_back (eqb o.direction 1)

  byte_block_read : bit 2 (second_flags o) ≡ bit 2 points
  byte_block_read = second_byte_block quiet o.ck_cond from points s.off_line_is s.ck_cond_is from_low points_low

  t_length_read : bits 1 0 (second_flags o) ≡ points % 4
  t_length_read = second_t_length quiet o.ck_cond from points s.off_line_is s.ck_cond_is from_low points_low

  -- The 12-byte form, of an order without EXTEND and upper bytes.
  pub short_reads : o.extend ≡ 0 → Each (without_upper o) → ReadsAs (short o) o
  short_reads x u =
      record {
        some = refl;
        opcode = refl;
        two_forms = refl;
        whole = refl;
        naca = refl;
        protocol = protocol_read;
        multiple_count_is = multiple_read;
        extend = rw x;
        off_line_is = off_line_read;
        ck_cond_is = ck_cond_read;
        t_dir_is = t_dir_read;
        byte_block_is = byte_block_read;
        t_length_is = t_length_read;
        features = one_byte o.features (ltb-true _ _ u.0);
        count = one_byte o.count (ltb-true _ _ u.1.0);
        lba_low_is = one_byte o.lba_low (ltb-true _ _ u.1.1.0);
        lba_mid_is = one_byte o.lba_mid (ltb-true _ _ u.1.1.1.0);
        lba_high_is = one_byte o.lba_high (ltb-true _ _ u.1.1.1.1.0);
        device = refl;
        command = refl;
      }

  -- The 16-byte form, of an order with EXTEND.
  pub long_reads : o.extend ≡ 1 → ReadsAs (long o) o
  long_reads x =
      let t : bit 0 (first_flags o) ≡ true = extend_read ∙ eq-eqb _ _ x in
      record {
        some = refl;
        opcode = refl;
        two_forms = refl;
        whole = refl;
        naca = refl;
        protocol = protocol_read;
        multiple_count_is = multiple_read;
        extend = extend_read;
        off_line_is = off_line_read;
        ck_cond_is = ck_cond_read;
        t_dir_is = t_dir_read;
        byte_block_is = byte_block_read;
        t_length_is = t_length_read;
        features = rw t (two_bytes o.features);
        count = rw t (two_bytes o.count);
        lba_low_is = rw t (two_bytes o.lba_low);
        lba_mid_is = rw t (two_bytes o.lba_mid);
        lba_high_is = rw t (two_bytes o.lba_high);
        device = refl;
        command = refl;
      }

-- An order is made of its fields.
rebuilt : (o : Order) {l a f n x y z q s d k p c e w : ℕ} → l ≡ o.length → a ≡ o.auxiliary → f ≡ o.features → n ≡ o.count → x ≡ o.lba_low → y ≡ o.lba_mid → z ≡ o.lba_high → q ≡ o.quiet_seconds → s ≡ o.sectors_per_block → d ≡ o.device → k ≡ o.command → p ≡ o.protocol → c ≡ o.ck_cond → e ≡ o.extend → w ≡ o.direction → record { length = l; auxiliary = a; features = f; count = n; lba_low = x; lba_mid = y; lba_high = z; quiet_seconds = q; sectors_per_block = s; device = d; command = k; protocol = p; ck_cond = c; extend = e; direction = w } ≡ o
rebuilt o h1 h2 h3 h4 h5 h6 h7 h8 h9 h10 h11 h12 h13 h14 h15 = rw (h1, h2, h3, h4, h5, h6, h7, h8, h9, h10, h11, h12, h13, h14, h15)

-- The direction that a protocol has comes back from T_DIR; without data there is none.
has_direction_back : (p direction : ℕ) (b : Bool) → eqb direction 1 ≡ b → cond b (not (to_drive p)) (eqb direction 2 && not (from_drive p)) ≡ true → cond b 1 2 ≡ direction
has_direction_back p direction true e h = sym (eqb-true _ _ e)
has_direction_back p direction false e h = sym (eqb-true _ _ ((and-eq-true_iff (eqb direction 2) (not (from_drive p))).0 h).0)

-- What is known of the data of an order that is no reset, by whether the protocol has any.
pub record Data (o : Order) (d : Bool) : Type 0 where
  pub direction : cond d (cond (eqb o.direction 1) 1 2) 0 ≡ o.direction
  pub length : eqb o.length 0 ≡ not d
  pub no_direction : d ≡ false → o.direction ≡ 0
  pub has : d ≡ true → has_direction o.protocol o.direction ≡ true

pub with_fit : (o : Order) (d : Bool) → cond d (not (eqb o.length 0) && has_direction o.protocol o.direction) (eqb o.length 0 && eqb o.direction 0) ≡ true → Data o d
with_fit o true h =
    let both = (and-eq-true_iff (not (eqb o.length 0)) (has_direction o.protocol o.direction)).0 h in
    record {
      direction = has_direction_back o.protocol o.direction (eqb o.direction 1) refl both.1;
      length = not-true _ both.0;
      no_direction = λ e. absurd (true≢false e);
      has = λ e. both.1;
    }
with_fit o false h =
    let both = (and-eq-true_iff (eqb o.length 0) (eqb o.direction 0)).0 h in
    let none = eqb-true o.direction 0 both.1 in
    record {
      direction = sym none;
      length = both.0;
      no_direction = λ e. none;
      has = λ e. absurd (true≢false (sym e));
    }

module _ (c : List ℕ) (o : Order) (r : ReadsAs c o) where
  -- The length is the order's.
  pub reads_length : length_of 512 c o.length ≡ o.length
  unfolding length_of
  reads_length = rw (r.t_length_is, r.byte_block_is, r.features, r.count) (length_back o.length o.count o.features)

  reset_read : reset o.protocol ≡ true → o.auxiliary ≡ 0 → off_line_for o.quiet_seconds < 4 → Each (of_reset o) → order_of c o.length ≡ o
  unfolding order_of
  reset_read t a q h =
      let g = h.1.1.1.1.1.1 in
      rw (r.protocol, t)
      (rebuilt o (sym (eqb-true _ _ h.0)) (sym a) (sym (eqb-true _ _ h.1.0)) (sym (eqb-true _ _ h.1.1.0)) (sym (eqb-true _ _ h.1.1.1.0)) (sym (eqb-true _ _ h.1.1.1.1.0)) (sym (eqb-true _ _ h.1.1.1.1.1.0))
      (ap quiet_seconds r.off_line_is ∙ quiet_back _ q) (sym (eqb-true _ _ g.0)) (sym (eqb-true _ _ g.1.0)) (sym (eqb-true _ _ g.1.1.0)) refl
      (sym (eqb-true _ _ g.1.1.1.0)) (sym (eqb-true _ _ g.1.1.1.1.0)) (sym (eqb-true _ _ g.1.1.1.1.1.0)))

  command_read : reset o.protocol ≡ false → o.auxiliary ≡ 0 → Small o → Data o (with_data o.protocol) → order_of c o.length ≡ o
  unfolding order_of
  command_read t a s d =
      rw (r.protocol, t)
      (rebuilt o refl (no_auxiliary c r.two_forms ∙ sym a) r.features r.count r.lba_low_is r.lba_mid_is r.lba_high_is
      (ap quiet_seconds r.off_line_is ∙ quiet_back _ s.off_line_is) (ap (λ (i : ℕ). 2 ^ i) r.multiple_count_is ∙ sectors_back _ s.multiple_count_is) r.device r.command refl
      (ap flag r.ck_cond_is ∙ yes_back _ s.ck_cond_is) (ap flag r.extend ∙ yes_back _ s.extend) (ap (λ (b : Bool). direction_of o.protocol b) r.t_dir_is ∙ d.direction))

  -- So is the order.
  pub reads_order : buildable o ≡ true → order_of c o.length ≡ o
  unfolding buildable
  reads_order e =
      let t = each (tests o) e in
      by (reset o.protocol) refl (eqb-true _ _ t.0) t.1.1.0
    where
      by : (b : Bool) → reset o.protocol ≡ b → o.auxiliary ≡ 0 → cond b (every (of_reset o)) (every (of_command o)) ≡ true → order_of c o.length ≡ o
      by true t a h = reset_read t a (small o e).off_line_is (each (of_reset o) h)
      by false t a h = command_read t a (small o e) (with_fit o (with_data o.protocol) (each (of_command o) h).1.1.1.1.1.0)
