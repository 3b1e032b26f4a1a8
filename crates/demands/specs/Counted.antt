-- What a command counts its data by, in the words of the papers: a field of one byte or two, in each form, and what it counts (RULES 8.2).
use Rattle.std.specs.Prelude.{Bool, cond, ◌&&◌, List, ℕ, ◌+◌, ◌*◌, eqb, get_or}
use Rattle.rules.specs.Bits.{bit, bits}
use Rattle.identify.specs.Block.{word}
use Rattle.passthrough_fields.specs.Fields.{long, longest, extend, t_length, t_type, byte_block}

-- A field: its upper byte, and its lower one.
pub record Field : Type 0 where
  pub upper : ℕ
  pub lower : ℕ

abbrev pub field : ℕ → ℕ → List ℕ → Field
field upper lower c = record { upper = get_or c upper 0; lower = get_or c lower 0 }

-- The 12-byte form has no upper bytes.
abbrev pub lower_only : ℕ → List ℕ → Field
lower_only lower c = record { upper = 0; lower = get_or c lower 0 }

-- The features, and the count, in the form of 32 bytes, of 16 and of 12.
abbrev pub features : List ℕ → Field
features c = cond (longest c) (field 20 21 c) (cond (long c) (field 3 4 c) (lower_only 3 c))

abbrev pub count : List ℕ → Field
count c = cond (longest c) (field 22 23 c) (cond (long c) (field 5 6 c) (lower_only 4 c))

-- The bits that a field has: 16 with EXTEND, else the 8 of its lower byte; and its number, in those.
abbrev pub width : List ℕ → ℕ
width c = cond (extend c) 16 8

abbrev pub number_in : List ℕ → Field → ℕ
number_in c f = cond (extend c) (0x100 * f.upper + f.lower) f.lower

-- T_LENGTH 1 points at the features, and 2 at the count.
abbrev pub counter : List ℕ → ℕ
counter c = number_in c (cond (eqb (t_length c) 1) (features c) (count c))

-- Word 106 says that words 117 and 118 tell the size of a logical sector, in words of two bytes, 117 the lower half: bits 15:14 are 01b,
-- and bit 12 is one.
abbrev pub tells_sector : List ℕ → Bool
tells_sector block = eqb (bits 15 14 (word block 106)) 1 && bit 12 (word block 106)

-- The size of a block: in the later edition with T_TYPE one that of a sector, if it is told; else 512 bytes.
abbrev pub size_of_block : Bool → List ℕ → List ℕ → ℕ
size_of_block later block c =
    cond (later && t_type c && tells_sector block) (2 * (word block 117 + 0x10000 * word block 118)) 512

-- BYTE_BLOCK one counts blocks, zero counts bytes.
abbrev pub unit : Bool → List ℕ → List ℕ → ℕ
unit later block c = cond (byte_block c) (size_of_block later block c) 1
