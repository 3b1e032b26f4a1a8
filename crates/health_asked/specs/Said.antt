-- What a drive said of its health, and what each answer stands for in the board's own numbers (RULES 3, 9 and 10).
use Rattle.std.specs.Prelude.{Bool, cond, ◌&&◌, List, ℕ, eqb, get_or}
use Rattle.refusals.specs.Refusal.{row_of, check_condition}
use Rattle.passthrough_end.specs.End.{failed}
use Rattle.health_asked.specs.declared.Said.{Said}
use Rattle.health_asked.specs.declared.Said.TheVariants.{Healthy, Failing, Unknown, Error, Refused}

-- The board's answer to the command: the number of its refusal or 0, the status, the sense key, and the drive's error register
-- where the drive reports an error, else 0.
pub record Values : Type 0 where
  pub number : ℕ
  pub status : ℕ
  pub key : ℕ
  pub error : ℕ

abbrev pub values : ℕ → ℕ → ℕ → ℕ → Values
values number status key error = record { number = number; status = status; key = key; error = error }

-- A command that ended without an error ends with key 01h, since it asks for the registers; with an error it is key 0Bh; and a
-- refusal answers what its row of the table says.
abbrev pub values_of : Said → Values
values_of Healthy = values 0 check_condition 0x01 0x00
values_of Failing = values 0 check_condition 0x01 0x00
values_of Unknown = values 0 check_condition 0x01 0x00
values_of (Error error) = values 0 check_condition 0x0B error
values_of (Refused number) = values number (row_of number).status (row_of number).key 0x00

-- Sense data in descriptor form that start with the descriptor of the drive's registers.
abbrev pub has_registers : List ℕ → Bool
has_registers sense = eqb (get_or sense 0 0) 0x72 && eqb (get_or sense 8 0) 0x09 && eqb (get_or sense 9 0) 0x0C

-- LBA mid and high: a healthy drive leaves them as SMART RETURN STATUS sent them, a failing one turns both.
unfoldable pub verdict_of : ℕ → ℕ → Said
verdict_of mid high =
    cond (eqb mid 0x4F && eqb high 0xC2) Healthy
    (cond (eqb mid 0xF4 && eqb high 0x2C) Failing
    Unknown)

-- What sense data say: nothing without the registers; key 0Bh is an error, and byte 11 the error register; else LBA mid and high,
-- bytes 17 and 19, decide.
unfoldable pub heard_in : List ℕ → Said
heard_in sense =
    cond (has_registers sense)
    (cond (eqb (get_or sense 1 0) 0x0B) (Error (get_or sense 11 0)) (verdict_of (get_or sense 17 0) (get_or sense 19 0)))
    Unknown

-- What a drive's registers say: with status bit 0 or 5 its error register, else LBA mid and high decide.
abbrev pub said_in : List ℕ → Said
said_in registers = cond (failed registers) (Error (get_or registers 0 0)) (verdict_of (get_or registers 6 0) (get_or registers 8 0))
