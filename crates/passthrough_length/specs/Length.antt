-- The length of a command's data (RULES 8.2), over a field's number and a block's size.
use Rattle.std.specs.Prelude.{Bool, true, false, cond, ◌&&◌, ◌||◌, List, ℕ, ◌*◌, eqb, length}
use Rattle.identify.specs.Sector.{sector_size}
use Rattle.passthrough_fields.specs.Fields.{t_length, t_type, byte_block, features_number, count_number}

-- The size of what a block count counts: with T_TYPE one logical sectors of the drive that gave the IDENTIFY block, in the later edition
-- alone; else blocks of 512 bytes.
abbrev pub block_size : Bool → List ℕ → List ℕ → ℕ
block_size later block command = cond (later && t_type command) (sector_size block) 512

-- A command counts logical sectors, where T_TYPE is looked at: it has a block count, with T_TYPE one.
abbrev pub in_sectors : List ℕ → Bool
in_sectors command = t_type command && byte_block command && (eqb (t_length command) 1 || eqb (t_length command) 2)

-- The drive gave no block to tell the size of its sectors, and it is needed.
abbrev pub lacking : Bool → List ℕ → List ℕ → Bool
lacking later block command = later && eqb (length block) 0 && in_sectors command

-- BYTE_BLOCK one counts blocks of a size, zero counts bytes.
abbrev pub bytes_in : Bool → ℕ → ℕ → ℕ
bytes_in true size number = size * number
bytes_in false size number = number

-- T_LENGTH 0 is no data, 1 the features number, 2 the count, 3 the length that the host declared, in bytes whatever BYTE_BLOCK is.
-- A number of 0 is length 0.
unfoldable pub length_of : ℕ → List ℕ → ℕ → ℕ
length_of size command declared =
    cond (eqb (t_length command) 0) 0
    (cond (eqb (t_length command) 1) (bytes_in (byte_block command) size (features_number command))
    (cond (eqb (t_length command) 2) (bytes_in (byte_block command) size (count_number command))
    declared))
