-- Whether a block carries a name (RULES 5).
use Rattle.std.specs.Prelude.{Bool, false, not, ◌&&◌, ◌||◌, List, [], ◌∷◌, ℕ, eqb}
use Rattle.rules.specs.Bits.{bit, bits}
use Rattle.identify.specs.Block.{word, name}

-- Some byte is not zero, so some bit is one.
unfoldable pub some_bit : List ℕ → Bool
some_bit [] = false
some_bit (byte ∷ bytes) = not (eqb byte 0) || some_bit bytes

-- Word 87 says that there is a name: its bits 15:14 are 01b, and bit 8 is one.
abbrev pub says_named : ℕ → Bool
says_named w = eqb (bits 15 14 w) 1 && bit 8 w

-- A block carries a name where word 87 says so and some bit of its name words is one.
unfoldable pub carries_name : List ℕ → Bool
carries_name block = says_named (word block 87) && some_bit (name block)
