-- What a block is counted as in the census: its highest Ultra DMA mode, and its highest major version (RULES 14).
use Rattle.std.specs.Prelude.{cond, List, ℕ, zero, suc, ◌+◌, eqb}
use Rattle.rules.specs.Bits.{bit}
use Rattle.identify.specs.Block.{word}

-- The highest one bit of a word among `count` bits from bit `low` on, and `none` where none of them is one.
unfoldable pub highest_bit : ℕ → ℕ → ℕ → ℕ → ℕ
highest_bit low zero none w = none
highest_bit low (suc count) none w = cond (bit (low + count) w) (low + count) (highest_bit low count none w)

-- No mode, as a class.
abbrev pub no_mode : ℕ
no_mode = 7

-- The highest Ultra DMA mode, 0 to 6: bits 6:0 of word 88, which count only where word 53 bit 2 is one.
unfoldable pub ultra_dma : List ℕ → ℕ
ultra_dma block = cond (bit 2 (word block 53)) (highest_bit 0 7 no_mode (word block 88)) no_mode

-- No version, as a class.
abbrev pub no_version : ℕ
no_version = 15

-- The highest major version, 1 to 14: bits 14:1 of word 80, which tells none where it is FFFFh.
unfoldable pub major_version : List ℕ → ℕ
major_version block = cond (eqb (word block 80) 0xFFFF) no_version (highest_bit 1 14 no_version (word block 80))
