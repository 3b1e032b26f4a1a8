-- Sense data: what a CHECK CONDITION tells the host, in the form that the caller asks for (RULES 10). This is the one place that
-- knows both forms: the descriptor form stands here, the fixed one in sense_fixed/specs/Fixed.
use Rattle.std.specs.Prelude.{Bool, cond, not, List, [], ◌∷◌, ℕ, eqb, get_or}
use Rattle.rules.specs.Bits.{flag}
use Rattle.sense_fixed.specs.Fixed.{fixed_sense}
-- What stands beside key, ASC and ASCQ, handed on to the crates above.
pub use Rattle.sense_fixed.specs.Told.{Told, nothing, registers}

-- The form that a caller asks for is a number: 0 states none, and so does every number that is none of these.
abbrev pub unstated : ℕ
unstated = 0

abbrev pub fixed : ℕ
fixed = 1

abbrev pub descriptor : ℕ
descriptor = 2

-- Fixed is the usual form: sense data are in the descriptor form only where the caller asks for that.
unfoldable pub is_fixed : ℕ → Bool
is_fixed form = not (eqb form descriptor)

-- An upper register byte: shown with EXTEND, zero without.
abbrev pub upper : Bool → ℕ → ℕ
upper extend byte = cond extend byte 0x00

-- The registers as they are lent and shown: error, count, LBA low, mid and high with the upper byte first, device, status.
abbrev pub shown : Bool → List ℕ → List ℕ
shown extend lent =
    get_or lent 0 0
    ∷ upper extend (get_or lent 1 0) ∷ get_or lent 2 0
    ∷ upper extend (get_or lent 3 0) ∷ get_or lent 4 0
    ∷ upper extend (get_or lent 5 0) ∷ get_or lent 6 0
    ∷ upper extend (get_or lent 7 0) ∷ get_or lent 8 0
    ∷ get_or lent 9 0
    ∷ get_or lent 10 0
    ∷ []

-- Descriptor form: 72h, key, ASC, ASCQ, three zero bytes and the length of what follows: nothing, or the 14 bytes of an ATA
-- status return descriptor, `09 0C`, EXTEND and the registers.
unfoldable pub descriptor_sense : ℕ → ℕ → ℕ → Told → List ℕ
descriptor_sense key asc ascq nothing = 0x72 ∷ key ∷ asc ∷ ascq ∷ 0x00 ∷ 0x00 ∷ 0x00 ∷ 0x00 ∷ []
descriptor_sense key asc ascq (registers extend lent) =
    0x72 ∷ key ∷ asc ∷ ascq ∷ 0x00 ∷ 0x00 ∷ 0x00 ∷ 0x0E ∷ 0x09 ∷ 0x0C ∷ flag extend ∷ shown extend lent

-- Sense data in a form.
unfoldable pub sense_data : ℕ → ℕ → ℕ → ℕ → Told → List ℕ
sense_data form key asc ascq told = cond (is_fixed form) (fixed_sense key asc ascq told) (descriptor_sense key asc ascq told)
