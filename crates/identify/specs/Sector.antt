-- The size of a drive's logical sectors (RULES 5).
use Rattle.std.specs.Prelude.{Bool, cond, ◌&&◌, List, ℕ, ◌+◌, ◌*◌, eqb}
use Rattle.rules.specs.Bits.{bit, bits}
use Rattle.identify.specs.Block.{word}

-- Word 106 says that words 117 and 118 tell the size: its bits 15:14 are 01b, and bit 12 is one.
abbrev pub tells_size : ℕ → Bool
tells_size w = eqb (bits 15 14 w) 1 && bit 12 w

-- They tell it in words of two bytes, as one number of which 117 is the lower half. A drive that tells none has sectors of 512 bytes.
unfoldable pub sector_size : List ℕ → ℕ
sector_size block = cond (tells_size (word block 106)) (2 * (word block 117 + 0x10000 * word block 118)) 512
