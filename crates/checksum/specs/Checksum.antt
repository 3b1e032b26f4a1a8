-- The sum of an IDENTIFY block's bytes, and which blocks are damaged (RULES 5).
use Rattle.std.specs.Prelude.{ℕ, ◌+◌, ◌%◌, Bool, false, not, ◌&&◌, ◌||◌, List, [], ◌∷◌, length, ◌==◌, slice_index}

-- The sum of the bytes.
unfoldable pub sum_of : List ℕ → ℕ
sum_of [] = 0
sum_of (byte ∷ bytes) = byte + sum_of bytes

-- A block that is damaged if its bytes have this sum: it has 512 bytes, the low byte of word 255, byte 510, is A5h, and the sum is
-- not 0 modulo 256.
unfoldable pub damaged_by : ℕ → List ℕ → Bool
damaged_by sum block = length block == 512 && slice_index block 510 == 0xA5 && not (sum % 0x100 == 0)

-- A damaged block, by its own sum.
unfoldable pub damaged : List ℕ → Bool
damaged block = damaged_by (sum_of block) block

-- Some block of a run is damaged.
unfoldable pub any_damaged : List (List ℕ) → Bool
any_damaged [] = false
any_damaged (block ∷ blocks) = damaged block || any_damaged blocks
