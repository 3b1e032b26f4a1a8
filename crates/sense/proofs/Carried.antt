-- What both forms carry agrees, and is read back from the room that it was written to.
use mathlib.Core.Path.{◌≡◌, refl, sym, ap, ◌∙◌}
use mathlib.Core.Bool.{Bool, true, false, ◌||◌, not}
use mathlib.Core.List.{List}
use Prim.Native.Nat.{ℕ, ◌+◌, ◌*◌, ◌≤◌, ◌<◌}
use native.Mathlib.Omega.{arith}
use lib.Dec.{eqb}
use lib.ListN.{length, get_or}
use lib.Seq.{get_or-take}
use Rattle.rules.specs.Bits.{bit, flag}
use Rattle.room.specs.Room.{written}
use Rattle.room.proofs.Laws.{front}
use Rattle.sense_fixed.specs.Fixed.{nonzero, fixed_sense}
use Rattle.sense.specs.Sense.{Told, nothing, registers, upper, is_fixed, descriptor_sense, sense_data}
use Rattle.sense.specs.Carried.{sensed, in_fixed, in_descriptor}

-- Three bits of a byte, each read alone.
abbrev three : Bool → Bool → Bool → ℕ
three a b c = 0x80 * flag a + 0x40 * flag b + 0x20 * flag c

bit_7 : (a b c : Bool) → bit 7 (three a b c) ≡ a
bit_7 true true true = refl
bit_7 true true false = refl
bit_7 true false true = refl
bit_7 true false false = refl
bit_7 false true true = refl
bit_7 false true false = refl
bit_7 false false true = refl
bit_7 false false false = refl

bit_6 : (a b c : Bool) → bit 6 (three a b c) ≡ b
bit_6 true true true = refl
bit_6 true true false = refl
bit_6 true false true = refl
bit_6 true false false = refl
bit_6 false true true = refl
bit_6 false true false = refl
bit_6 false false true = refl
bit_6 false false false = refl

bit_5 : (a b c : Bool) → bit 5 (three a b c) ≡ c
bit_5 true true true = refl
bit_5 true true false = refl
bit_5 true false true = refl
bit_5 true false false = refl
bit_5 false true true = refl
bit_5 false true false = refl
bit_5 false false true = refl
bit_5 false false false = refl

bit_0 : (a : Bool) → bit 0 (flag a) ≡ a
bit_0 true = refl
bit_0 false = refl

-- An upper byte is not zero where it is shown and is not.
shown_nonzero : (extend : Bool) (byte : ℕ) → not (eqb (upper extend byte) 0) ≡ nonzero extend byte
shown_nonzero true byte = refl
shown_nonzero false byte = refl

module _ (key asc ascq : ℕ) where
  pub forms_agree : (told : Told) → in_fixed (fixed_sense key asc ascq told) ≡ in_descriptor (descriptor_sense key asc ascq told)
  unfolding in_fixed in_descriptor fixed_sense descriptor_sense
  forms_agree nothing = refl
  forms_agree (registers e l) =
      let c = nonzero e (get_or l 1 0) in
      let b = nonzero e (get_or l 3 0) || nonzero e (get_or l 5 0) || nonzero e (get_or l 7 0) in
      rw (bit_7 e c b, bit_6 e c b, bit_5 e c b, bit_0 e, shown_nonzero e (get_or l 1 0), shown_nonzero e (get_or l 3 0), shown_nonzero e (get_or l 5 0), shown_nonzero e (get_or l 7 0))

-- Byte 7 of what stands at the front of a room finds it again.
found : (room s : List ℕ) → length s ≤ length room → 7 < length s → 8 + get_or s 7 0 ≡ length s → sensed (written room 0 s) ≡ s
found room s h k e =
    let f = front room s h in
    let seven : get_or (written room 0 s) 7 0 ≡ get_or s 7 0 = sym (get_or-take (length s) (written room 0 s) 7 0 k) ∙ ap (λ (l : List ℕ). get_or l 7 0) f in
    rw (seven, e) f

module _ (room : List ℕ) (enough : 22 ≤ length room) (key asc ascq : ℕ) where
  found_fixed : (told : Told) → sensed (written room 0 (fixed_sense key asc ascq told)) ≡ fixed_sense key asc ascq told
  unfolding fixed_sense
  found_fixed nothing = found room _ (omega (arith, enough)) (omega arith) refl
  found_fixed (registers e l) = found room _ (omega (arith, enough)) (omega arith) refl

  found_descriptor : (told : Told) → sensed (written room 0 (descriptor_sense key asc ascq told)) ≡ descriptor_sense key asc ascq told
  unfolding descriptor_sense
  found_descriptor nothing = found room _ (omega (arith, enough)) (omega arith) refl
  found_descriptor (registers e l) = found room _ (omega (arith, enough)) (omega arith) refl

  -- So one call's sense data in the fixed form and in another carry the same.
  pub written_agree : (told : Told) (fixed other : ℕ) → is_fixed fixed ≡ true → is_fixed other ≡ false → in_fixed (sensed (written room 0 (sense_data fixed key asc ascq told))) ≡ in_descriptor (sensed (written room 0 (sense_data other key asc ascq told)))
  unfolding sense_data
  written_agree told fixed other f o = rw (f, o, found_fixed told, found_descriptor told) (forms_agree key asc ascq told)
