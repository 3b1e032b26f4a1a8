-- Packet drives: which drive is one, and its page 00h made from the drive's own (RULES 7).
use Rattle.std.specs.Prelude.{Bool, true, false, cond, ◌&&◌, ◌||◌, not, List, [], ◌∷◌, ℕ, ◌-◌, eqb, ltb, length, get_or, take, drop}

-- A packet drive is told by bytes 5 and 6 of its signature: 14h and EBh.
abbrev pub packet_drive : List ℕ → Bool
packet_drive signature = eqb (get_or signature 5 0) 0x14 && eqb (get_or signature 6 0) 0xEB

-- The list of the drive's own page 00h: as many bytes from byte 4 on as byte 3 says.
abbrev pub listed : List ℕ → List ℕ
listed reply = take (get_or reply 3 0) (drop 4 reply)

-- Every code is above the one before it.
unfoldable pub rising : List ℕ → Bool
rising [] = true
rising (a ∷ []) = true
rising (a ∷ b ∷ codes) = ltb a b && rising (b ∷ codes)

unfoldable pub has89 : List ℕ → Bool
has89 [] = false
has89 (code ∷ codes) = eqb code 0x89 || has89 codes

-- The list with 89h at its place among the others, once.
unfoldable pub with89 : List ℕ → List ℕ
with89 [] = 0x89 ∷ []
with89 (code ∷ codes) = cond (ltb code 0x89) (code ∷ with89 codes) (cond (eqb code 0x89) (code ∷ codes) (0x89 ∷ code ∷ codes))

-- The drive's own page cannot be used where it is shorter than four bytes, where byte 1 is not 00h, where byte 3 counts more codes
-- than there are bytes behind it, where the list does not rise, or where it is full and lacks 89h.
unfoldable pub unusable : List ℕ → Bool
unusable reply =
    ltb (length reply) 4
    || not (eqb (get_or reply 1 0) 0x00)
    || ltb (length reply - 4) (get_or reply 3 0)
    || not (rising (listed reply))
    || eqb (length (listed reply)) 255 && not (has89 (listed reply))

-- The page: bytes 0 and 2 of the drive's own, byte 1 zero, byte 3 the new count; nothing of what stood behind the list.
unfoldable pub page00 : List ℕ → List ℕ
page00 reply =
    get_or reply 0 0 ∷ 0x00 ∷ get_or reply 2 0 ∷ length (with89 (listed reply)) ∷ with89 (listed reply)
