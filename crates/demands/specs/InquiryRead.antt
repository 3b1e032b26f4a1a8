-- What is read of an INQUIRY command (RULES 4). All else is ignored: bits 7:2 of byte 1, of the control byte all but NACA, and bytes
-- behind the sixth. A byte that is lacking is read as 00h.
use Rattle.std.specs.Prelude.{Bool, List, ℕ, eqb, ltb, length, get_or}
use Rattle.inquiry_fields.specs.Fields as Fields

pub record InquiryRead : Type 0 where
  -- That it has no byte, or fewer than six;
  pub empty : Bool
  pub short : Bool
  -- and its fields.
  pub opcode : ℕ
  pub evpd : Bool
  pub cmddt : Bool
  pub page_code_is : ℕ
  pub allocation : ℕ
  pub naca : Bool

unfoldable pub read_of_inquiry : List ℕ → InquiryRead
read_of_inquiry command =
    record {
      empty = eqb (length command) 0;
      short = ltb (length command) 6;
      opcode = get_or command 0 0;
      evpd = Fields.evpd command;
      cmddt = Fields.cmddt command;
      page_code_is = Fields.page_code command;
      allocation = Fields.allocation command;
      naca = Fields.naca command;
    }
