-- The length rule: a count's length is one product, over any number and any size, in all three forms.
use mathlib.Core.Path.{◌≡◌, refl, sym, ap, ◌∙◌}
use mathlib.Core.Bool.{Bool, true, false, cond, ◌&&◌, true≢false}
use mathlib.Core.Logic.{inl, inr}
use mathlib.Core.List.{List, [], ◌∷◌}
use Prim.Native.Nat.{ℕ, ◌+◌, ◌*◌, ◌^◌, ◌<◌}
use native.Mathlib.Nat.{zero-add, mul_comm, mul-one}
use native.Mathlib.Omega.{arith}
use lib.Dec.{eqb}
use lib.ListN.{get_or}
use borrow.Author.Tests.{eqb-true, eqb-false}
use Rattle.identify.specs.Bytes.{Bytes}
use Rattle.identify.specs.Sector.{sector_size}
use Rattle.passthrough_fields.specs.Fields.{long, longest, extend, register, t_length, t_type, byte_block}
use Rattle.passthrough_length.specs.Length.{block_size, bytes_in, length_of}
use Rattle.passthrough.specs.Submit.{is_later}
use Rattle.demands.specs.Counted.{Field, field, lower_only, features, count, number_in, counter, tells_sector, size_of_block, width}
use Rattle.demands.specs.Promises.{Submission, OneOf, asked_length, counted_length}
use Rattle.demands.proofs.Built.{byte_low}

-- A register's number is its field's, in every form: the short one has no upper byte, and no EXTEND.
in_every_form : (longestForm longForm wide : Bool) → (longestForm ≡ false → longForm ≡ false → wide ≡ false) → (u32 u16 u12 l32 l16 l12 : ℕ)
    → let f : Field = cond longestForm (record { upper = u32; lower = l32 }) (cond longForm (record { upper = u16; lower = l16 }) (record { upper = 0; lower = l12 })) in
    0x100 * cond wide (cond longestForm u32 (cond longForm u16 u12)) 0 + cond longestForm l32 (cond longForm l16 l12) ≡ cond wide (0x100 * f.upper + f.lower) f.lower
in_every_form true longForm true h u32 u16 u12 l32 l16 l12 = refl
in_every_form true longForm false h u32 u16 u12 l32 l16 l12 = zero-add l32
in_every_form false true true h u32 u16 u12 l32 l16 l12 = refl
in_every_form false true false h u32 u16 u12 l32 l16 l12 = zero-add l16
in_every_form false false true h u32 u16 u12 l32 l16 l12 = absurd (true≢false (h refl refl))
in_every_form false false false h u32 u16 u12 l32 l16 l12 = zero-add l12

-- Blocks of a size, or bytes.
in_units : (blocks : Bool) (size number : ℕ) → bytes_in blocks size number ≡ number * cond blocks size 1
in_units true size number = mul_comm size number
in_units false size number = sym (mul-one number)

module _ (c : List ℕ) where
  short_narrow : longest c ≡ false → long c ≡ false → extend c ≡ false
  short_narrow l m = rw (l, m)

  features_are : register 0 c ≡ number_in c (features c)
  features_are =
      in_every_form (longest c) (long c) (extend c) short_narrow (get_or c 20 0) (get_or c 3 0) (get_or c 0 0) (get_or c 21 0) (get_or c 4 0) (get_or c 3 0)

  count_is : register 1 c ≡ number_in c (count c)
  count_is =
      in_every_form (longest c) (long c) (extend c) short_narrow (get_or c 22 0) (get_or c 5 0) (get_or c 0 0) (get_or c 23 0) (get_or c 6 0) (get_or c 4 0)

  -- So the length is the counter times the unit, whatever the size of a block is.
  product : (size declared : ℕ) → OneOf (t_length c) (1 ∷ 2 ∷ []) → length_of size c declared ≡ counter c * cond (byte_block c) size 1
  unfolding length_of
  product size declared (inl e) = rw (e, features_are) (in_units (byte_block c) size (number_in c (features c)))
  product size declared (inr (inl e)) = rw (e, count_is) (in_units (byte_block c) size (number_in c (count c)))
  product size declared (inr (inr x)) = elim x [ ]

-- The size of a block, from what it hangs on.
told_if : (looked told : Bool) (sector size : ℕ) → cond looked (cond told sector size) size ≡ cond (looked && told) sector size
told_if true told sector size = refl
told_if false told sector size = refl

size_is : (later : Bool) (block c : List ℕ) → block_size later block c ≡ size_of_block later block c
unfolding sector_size
size_is later block c = told_if (later && t_type c) (tells_sector block) _ 512

-- A field of bytes has a number of its width.
number_fits : (wide : Bool) (u l : ℕ) → u < 0x100 → l < 0x100 → cond wide (0x100 * u + l) l < 2 ^ cond wide 16 8
number_fits true u l hu hl = omega arith
number_fits false u l hu hl = omega arith

module _ (c : List ℕ) (b : Bytes c) where
  features_fit : (x y : Bool) → let f = cond x (field 20 21 c) (cond y (field 3 4 c) (lower_only 3 c)) in (f.upper < 0x100) × (f.lower < 0x100)
  features_fit true y = (byte_low b 20, byte_low b 21)
  features_fit false true = (byte_low b 3, byte_low b 4)
  features_fit false false = (omega arith, byte_low b 3)

  count_fits : (x y : Bool) → let f = cond x (field 22 23 c) (cond y (field 5 6 c) (lower_only 4 c)) in (f.upper < 0x100) × (f.lower < 0x100)
  count_fits true y = (byte_low b 22, byte_low b 23)
  count_fits false true = (byte_low b 5, byte_low b 6)
  count_fits false false = (omega arith, byte_low b 4)

  pub counter_fits : counter c < 2 ^ width c
  counter_fits = by (eqb (t_length c) 1)
    where
      by : (one : Bool) → number_in c (cond one (features c) (count c)) < 2 ^ width c
      by true = let f = features_fit (longest c) (long c) in number_fits (extend c) _ _ f.0 f.1
      by false = let f = count_fits (longest c) (long c) in number_fits (extend c) _ _ f.0 f.1

-- The length by the rule, and that it is the one in words, where T_LENGTH points at something.
abbrev pub rule_length : Submission → ℕ
rule_length s = length_of (block_size (is_later s.edition) s.block s.command) s.command s.declared

module _ (s : Submission) where
  abbrev sent : List ℕ
  sent = s.command

  pub rule_counts : OneOf (t_length sent) (1 ∷ 2 ∷ []) → rule_length s ≡ counted_length s
  rule_counts h =
      product sent (block_size (is_later s.edition) s.block sent) s.declared h
      ∙ ap (λ (n : ℕ). counter sent * cond (byte_block sent) n 1) (size_is (is_later s.edition) s.block sent)

  pub asked_count : OneOf (t_length sent) (1 ∷ 2 ∷ []) → asked_length s ≡ counted_length s
  asked_count (inl t) = rw t
  asked_count (inr (inl t)) = rw t
  asked_count (inr (inr x)) = elim x [ ]

  pub rule_asks : (t_length sent ≡ 0 → ⊥) → rule_length s ≡ asked_length s
  unfolding length_of
  rule_asks z = by (eqb (t_length sent) 1) (eqb (t_length sent) 2) refl refl
    where
      same : OneOf (t_length sent) (1 ∷ 2 ∷ []) → rule_length s ≡ asked_length s
      same h = rule_counts h ∙ sym (asked_count h)

      by : (a b : Bool) → eqb (t_length sent) 1 ≡ a → eqb (t_length sent) 2 ≡ b → rule_length s ≡ asked_length s
      by true b e f = same (inl (eqb-true _ _ e))
      by false true e f = same (inr (inl (eqb-true _ _ f)))
      by false false e f =
          let t : t_length sent ≡ 3 = omega (arith, z, eqb-false (t_length sent) 1 e, eqb-false (t_length sent) 2 f) in
          rw t
