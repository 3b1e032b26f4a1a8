-- Texts of an IDENTIFY block: turned, and with zero bytes as spaces (RULES 5); and the part of the firmware text that is shown as a
-- revision (RULES 6.1).
use Rattle.std.specs.Prelude.{Bool, true, cond, ◌&&◌, List, [], ◌∷◌, map, ℕ, eqb, take, drop}

-- Turned: in each word the two bytes change places. A last byte with no partner stays.
unfoldable pub turned : List ℕ → List ℕ
turned [] = []
turned (a ∷ []) = a ∷ []
turned (a ∷ b ∷ text) = b ∷ a ∷ turned text

-- 00h becomes 20h, any other byte stays.
abbrev pub space : ℕ → ℕ
space byte = cond (eqb byte 0x00) 0x20 byte

-- Spaced: every zero byte a space.
abbrev pub spaced : List ℕ → List ℕ
spaced text = map space text

-- Every byte is a space, 20h. A zero byte is none.
unfoldable pub all_spaces : List ℕ → Bool
all_spaces [] = true
all_spaces (byte ∷ bytes) = eqb byte 0x20 && all_spaces bytes

-- PRODUCT REVISION LEVEL, of a firmware text of four words: its last two words, or its first two where the last are all spaces;
-- turned, zero bytes kept.
abbrev pub revision_part : List ℕ → List ℕ
revision_part firmware = cond (all_spaces (drop 4 firmware)) (take 4 firmware) (drop 4 firmware)

unfoldable pub revision : List ℕ → List ℕ
revision firmware = turned (revision_part firmware)
