-- Commands that are equal in the bytes that are read: the same is read of them.
use mathlib.Core.Path.{◌≡◌, refl, ap, ◌∙◌}
use mathlib.Core.Bool.{Bool, true, false, cond, not, ◌&&◌}
use mathlib.Core.List.{List}
use Prim.Native.Nat.{ℕ, ◌+◌, ◌*◌, ◌≤◌}
use native.Mathlib.Omega.{arith}
use lib.Dec.{eqb, ltb}
use lib.ListN.{length, get_or}
use borrow.Author.Tests.{ne_eqb, le-ltb}
use Rattle.passthrough_fields.specs.Fields as Fields
use Rattle.passthrough_fields.specs.Fields.{long, longest, size, placed, extend}
use Rattle.passthrough_order.specs.Order.{reset}
use Rattle.passthrough_checks.specs.Checks as Checks
use Rattle.passthrough_checks.proofs.Laws.{whole}
use Rattle.passthrough.specs.Submit.{is_later}
use Rattle.demands.specs.Read.{read_of, flags_of, of_command, places32, places16, places12, has_registers, places_read}
use Rattle.demands.specs.Promises.{OneOf, OnlyWhatIsReadCounts}
use Rattle.demands.proofs.Accepted.{among, listed}
use Rattle.demands.proofs.Read.{read_alike}

-- The form that is picked.
picks_first : (a b : Bool) (x y z : List ℕ) → a ≡ true → cond a x (cond b y z) ≡ x
picks_first a b x y z e = rw e

picks_second : (a b : Bool) (x y z : List ℕ) → a ≡ false → b ≡ true → cond a x (cond b y z) ≡ y
picks_second a b x y z e f = rw (e, f)

picks_third : (a b : Bool) (x y z : List ℕ) → a ≡ false → b ≡ false → cond a x (cond b y z) ≡ z
picks_third a b x y z e f = rw (e, f)

module _ (c d : List ℕ) (same : (place : ℕ) → OneOf place (places_read c) → get_or d place 0 ≡ get_or c place 0) where
  abbrev Same : ℕ → Type 0
  Same j = get_or d j 0 ≡ get_or c j 0

  -- The places of each form, tried by number.
  abbrev in32 : List ℕ
  in32 = places32 (has_registers c) (extend c)

  abbrev in16 : List ℕ
  in16 = places16 (has_registers c) (extend c)

  abbrev in12 : List ℕ
  in12 = places12 (has_registers c)

  tried : (ms : List ℕ) → places_read c ≡ ms → (j : ℕ) → among j ms ≡ true → Same j
  tried ms e j t = same j (listed j (places_read c) (ap (among j) e ∙ t))

  in_longest : longest c ≡ true → (j : ℕ) → among j in32 ≡ true → Same j
  in_longest l = tried in32 (picks_first (longest c) (long c) in32 in16 in12 l)

  in_long : longest c ≡ false → long c ≡ true → (j : ℕ) → among j in16 ≡ true → Same j
  in_long l m = tried in16 (picks_second (longest c) (long c) in32 in16 in12 l m)

  in_short : longest c ≡ false → long c ≡ false → (j : ℕ) → among j in12 ≡ true → Same j
  in_short l m = tried in12 (picks_third (longest c) (long c) in32 in16 in12 l m)

  -- A byte with a place of its own in each form.
  at_places : (i j k : ℕ) → among i in12 ≡ true → among j in16 ≡ true → among k in32 ≡ true → cond (longest c) (get_or d k 0) (cond (long c) (get_or d j 0) (get_or d i 0)) ≡ placed i j k c
  at_places i j k x y z = by (longest c) (long c) refl refl
    where
      by : (a b : Bool) → longest c ≡ a → long c ≡ b → cond a (get_or d k 0) (cond b (get_or d j 0) (get_or d i 0)) ≡ cond a (get_or c k 0) (cond b (get_or c j 0) (get_or c i 0))
      by true b l m = in_longest l k z
      by false true l m = in_long l m j y
      by false false l m = in_short l m i x

  -- The opcode, the flags, the control byte and bytes 7 to 9.
  opcode_same : Same 0
  opcode_same = by (longest c) (long c) refl refl
    where
      by : (a b : Bool) → longest c ≡ a → long c ≡ b → Same 0
      by true b l m = in_longest l 0 refl
      by false true l m = in_long l m 0 refl
      by false false l m = in_short l m 0 refl

  flags_same : (k i : ℕ) → among k in32 ≡ true → among i in16 ≡ true → among i in12 ≡ true → cond (longest c) (get_or d k 0) (get_or d i 0) ≡ cond (longest c) (get_or c k 0) (get_or c i 0)
  flags_same k i z y x = by (longest c) (long c) refl refl
    where
      by : (a b : Bool) → longest c ≡ a → long c ≡ b → cond a (get_or d k 0) (get_or d i 0) ≡ cond a (get_or c k 0) (get_or c i 0)
      by true b l m = in_longest l k z
      by false true l m = in_long l m i y
      by false false l m = in_short l m i x

  first_same : cond (longest c) (get_or d 10 0) (get_or d 1 0) ≡ Fields.first_flags c
  first_same = flags_same 10 1 refl refl refl

  second_same : cond (longest c) (get_or d 11 0) (get_or d 2 0) ≡ Fields.second_flags c
  second_same = flags_same 11 2 refl refl refl

  action_same : (longest c && not (Fields.service_action d)) ≡ Checks.wrong_action c
  action_same = by (longest c) refl
    where
      by : (a : Bool) → longest c ≡ a → (a && not (Fields.service_action d)) ≡ (a && not (Fields.service_action c))
      by true l = rw (in_longest l 7 refl, in_longest l 8 refl, in_longest l 9 refl)
      by false l = refl

  -- The registers, where they are read.
  module _ (r : has_registers c ≡ true) where
    upper_same : (j k : ℕ) → (extend c ≡ true → among j in16 ≡ true) → (extend c ≡ true → among k in32 ≡ true)
        → cond (extend c) (cond (longest c) (get_or d k 0) (cond (long c) (get_or d j 0) (get_or c 0 0))) 0 ≡ cond (extend c) (placed 0 j k c) 0
    upper_same j k y z = by (extend c) refl
      where
        by : (x : Bool) → extend c ≡ x → cond x (cond (longest c) (get_or d k 0) (cond (long c) (get_or d j 0) (get_or c 0 0))) 0 ≡ cond x (placed 0 j k c) 0
        by true x = rw opcode_same at (at_places 0 j k refl (y x) (z x))
        by false x = refl

    auxiliary_same : cond (longest c) (0x1000000 * get_or d 28 0 + 0x10000 * get_or d 29 0 + 0x100 * get_or d 30 0 + get_or d 31 0) 0 ≡ Fields.auxiliary c
    auxiliary_same = by (longest c) refl
      where
        by : (a : Bool) → longest c ≡ a → cond a (0x1000000 * get_or d 28 0 + 0x10000 * get_or d 29 0 + 0x100 * get_or d 30 0 + get_or d 31 0) 0 ≡ cond a (0x1000000 * get_or c 28 0 + 0x10000 * get_or c 29 0 + 0x100 * get_or c 30 0 + get_or c 31 0) 0
        by true l = rw (in_longest l 28 (rw r), in_longest l 29 (rw r), in_longest l 30 (rw r), in_longest l 31 (rw r))
        by false l = refl

    all_same : (later : Bool) → of_command later d ≡ of_command later c
    all_same later =
        rw (
          opcode_same,
          first_same,
          second_same,
          upper_same 3 20 (λ x. rw (r, x)) (λ x. rw (r, x)),
          at_places 3 4 21 (rw r) (rw r) (rw r),
          upper_same 5 22 (λ x. rw (r, x)) (λ x. rw (r, x)),
          at_places 4 6 23 (rw r) (rw r) (rw r),
          upper_same 7 16 (λ x. rw (r, x)) (λ x. rw (r, x)),
          at_places 5 8 19 (rw r) (rw r) (rw r),
          upper_same 9 15 (λ x. rw (r, x)) (λ x. rw (r, x)),
          at_places 6 10 18 (rw r) (rw r) (rw r),
          upper_same 11 14 (λ x. rw (r, x)) (λ x. rw (r, x)),
          at_places 7 12 17 (rw r) (rw r) (rw r),
          at_places 8 13 24 (rw r) (rw r) (rw r),
          at_places 9 14 25 (rw r) (rw r) (rw r),
          auxiliary_same,
        )

  flags_alike : (later : Bool) → flags_of later d ≡ flags_of later c
  flags_alike later = by (eqb (Fields.protocol c) 15) (reset (Fields.protocol c)) refl refl
    where
      by : (a b : Bool) → eqb (Fields.protocol c) 15 ≡ a → reset (Fields.protocol c) ≡ b → flags_of later d ≡ flags_of later c
      by true b f r = rw (opcode_same, first_same, f)
      by false true f r = rw (opcode_same, first_same, second_same, f, r)
      by false false f r = rw (all_same (rw (f, r)) later) (rw (opcode_same, first_same, second_same))

  -- So the same is read of two whole commands.
  bytes_alike : (later : Bool) → size c ≤ length c → size c ≤ length d → read_of later d ≡ read_of later c
  unfolding read_of
  bytes_alike later x y =
      let wc : ltb (length c) (size c) ≡ false = le-ltb (length c) (size c) x in
      let wd : ltb (length d) (size d) ≡ false = le-ltb (length d) (size d) (rw opcode_same y) in
      let some-c : eqb (length c) 0 ≡ false = ne_eqb (length c) 0 (λ z. omega (arith, (whole c wc).short)) in
      let some-d : eqb (length d) 0 ≡ false = ne_eqb (length d) 0 (λ z. omega (arith, (whole d wd).short)) in
      rw (flags_alike later, some-c, some-d, wc, wd, opcode_same, at_places 11 15 1 refl refl refl, action_same, first_same)

pub only_what_is_read_counts : OnlyWhatIsReadCounts
only_what_is_read_counts =
    record {
      read_alike = read_alike;
      bytes_alike = λ s other x y same. read_alike s other (bytes_alike s.command other same (is_later s.edition) x y);
    }
