-- What sense data carry, read out of either form by a definition of its own (RULES 10).
use Rattle.std.specs.Prelude.{Bool, ◌||◌, not, List, ℕ, ◌+◌, eqb, get_or, take}
use Rattle.rules.specs.Bits.{bit}

-- What both forms carry: of the registers the lower bytes, and of the upper ones whether that of the count, or one of the LBA, is not
-- zero.
pub record Carried : Type 0 where
  pub key : ℕ
  pub asc : ℕ
  pub ascq : ℕ
  pub extend : Bool
  pub error : ℕ
  pub status : ℕ
  pub device : ℕ
  pub count : ℕ
  pub lba_low : ℕ
  pub lba_mid : ℕ
  pub lba_high : ℕ
  pub upper_count : Bool
  pub upper_lba : Bool

-- The sense data at the front of a room: in both forms byte 7 says how many bytes follow it.
abbrev pub sensed : List ℕ → List ℕ
sensed room = take (8 + get_or room 7 0) room

unfoldable pub in_fixed : List ℕ → Carried
in_fixed s =
    record {
      key = get_or s 2 0;
      asc = get_or s 12 0;
      ascq = get_or s 13 0;
      extend = bit 7 (get_or s 8 0);
      error = get_or s 3 0;
      status = get_or s 4 0;
      device = get_or s 5 0;
      count = get_or s 6 0;
      lba_low = get_or s 9 0;
      lba_mid = get_or s 10 0;
      lba_high = get_or s 11 0;
      upper_count = bit 6 (get_or s 8 0);
      upper_lba = bit 5 (get_or s 8 0);
    }

unfoldable pub in_descriptor : List ℕ → Carried
in_descriptor s =
    record {
      key = get_or s 1 0;
      asc = get_or s 2 0;
      ascq = get_or s 3 0;
      extend = bit 0 (get_or s 10 0);
      error = get_or s 11 0;
      status = get_or s 21 0;
      device = get_or s 20 0;
      count = get_or s 13 0;
      lba_low = get_or s 15 0;
      lba_mid = get_or s 17 0;
      lba_high = get_or s 19 0;
      upper_count = not (eqb (get_or s 12 0) 0);
      upper_lba = not (eqb (get_or s 14 0) 0) || not (eqb (get_or s 16 0) 0) || not (eqb (get_or s 18 0) 0);
    }
