-- The table of refusals: what each number answers (RULES 3).
use Rattle.std.specs.Prelude.{cond, List, [], ◌∷◌, ℕ, eqb, get_or}
use Rattle.room.specs.Room.{written}
use Rattle.sense.specs.Sense.{nothing, sense_data}

-- The status numbers (RULES 2). FFh, which SCSI gives to no status, says that there is none.
abbrev pub good : ℕ
good = 0x00

abbrev pub check_condition : ℕ
check_condition = 0x02

abbrev pub busy : ℕ
busy = 0x08

abbrev pub no_status : ℕ
no_status = 0xFF

-- A row of the table; key 00 stands for no key.
pub record Row : Type 0 where
  pub status : ℕ
  pub key : ℕ
  pub asc : ℕ
  pub ascq : ℕ

abbrev pub row : ℕ → ℕ → ℕ → ℕ → Row
row status key asc ascq = record { status = status; key = key; asc = asc; ascq = ascq }

-- A row for each number from 0 to 23. Number 0 is no refusal, and answers nothing here.
abbrev pub table : List Row
table =
    row no_status 0x00 0x00 0x00
    -- 1: a lent piece of a wrong size
    ∷ row no_status 0x00 0x00 0x00
    -- 2: an empty command, or one that is too short
    ∷ row check_condition 0x05 0x24 0x00
    -- 3: an opcode of another entry
    ∷ row check_condition 0x05 0x20 0x00
    -- 4: NACA; of INQUIRY also CMDDT, or a page code without EVPD
    ∷ row check_condition 0x05 0x24 0x00
    -- 5: EVPD and a page that is not served
    ∷ row check_condition 0x05 0x24 0x00
    -- 6: no IDENTIFY block
    ∷ row check_condition 0x02 0x04 0x00
    -- 7: a packet drive's own page 00h is unusable
    ∷ row check_condition 0x0B 0x00 0x00
    -- 8: less room than bytes to write
    ∷ row no_status 0x00 0x00 0x00
    -- 9: a protocol that is not served
    ∷ row check_condition 0x05 0x24 0x00
    -- 10: an order waits for what is pending
    ∷ row busy 0x00 0x00 0x00
    -- 11: T_LENGTH does not fit the protocol
    ∷ row check_condition 0x05 0x24 0x00
    -- 12: T_DIR does not fit the protocol
    ∷ row check_condition 0x05 0x24 0x00
    -- 13: a data protocol with length 0
    ∷ row check_condition 0x05 0x24 0x00
    -- 14: more data than the host declared
    ∷ row check_condition 0x05 0x24 0x00
    -- 15: completion while nothing is pending
    ∷ row no_status 0x00 0x00 0x00
    -- 16: a page 83h that the writer makes for no block
    ∷ row no_status 0x00 0x00 0x00
    -- 17: a census that is full, or of which a grouping does not sum to its blocks
    ∷ row no_status 0x00 0x00 0x00
    -- 18: a damaged block
    ∷ row no_status 0x00 0x00 0x00
    -- 19: page 83h with a relative target port that is not 1 or 2
    ∷ row check_condition 0x05 0x24 0x00
    -- 20: another command with the opcode of the 32-byte form
    ∷ row check_condition 0x05 0x24 0x00
    -- 21: a capture whose layout is broken
    ∷ row no_status 0x00 0x00 0x00
    -- 22: a capture of a packet drive
    ∷ row no_status 0x00 0x00 0x00
    -- 23: an order that no command makes
    ∷ row no_status 0x00 0x00 0x00
    ∷ []

-- A number that has no row answers nothing.
abbrev pub no_row : Row
no_row = row no_status 0x00 0x00 0x00

unfoldable pub row_of : ℕ → Row
row_of number = get_or table number no_row

-- Key, ASC and ASCQ of a row, as three bytes; and those of every row, by number.
abbrev pub three_bytes : Row → List ℕ
three_bytes r = r.key ∷ r.asc ∷ r.ascq ∷ []

-- A row with a key writes its sense data, in the form that is asked for, at the front of the sense room; a row without one writes
-- nothing.
unfoldable pub refused_sense : ℕ → ℕ → List ℕ → List ℕ
refused_sense form number room =
    cond (eqb (row_of number).key 0x00) room
    (written room 0 (sense_data form (row_of number).key (row_of number).asc (row_of number).ascq nothing))
