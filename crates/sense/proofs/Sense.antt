-- Laws of sense data.
use mathlib.Core.Path.{◌≡◌, refl}
use mathlib.Core.Bool.{Bool, true, false, cond}
use Prim.Native.Nat.{ℕ}
use lib.ListN.{length}
use Rattle.sense_fixed.specs.Fixed.{fixed_sense}
use Rattle.sense.specs.Sense.{is_fixed, descriptor_sense, sense_data, nothing}

-- "8 or 18 sense bytes by form"
pub length_code : (form key asc ascq : ℕ) → length (sense_data form key asc ascq nothing) ≡ cond (is_fixed form) 18 8
unfolding sense_data fixed_sense descriptor_sense
length_code form key asc ascq = by (is_fixed form)
  where
    by : (t : Bool) → length (cond t (fixed_sense key asc ascq nothing) (descriptor_sense key asc ascq nothing)) ≡ cond t 18 8
    by true = refl
    by false = refl
