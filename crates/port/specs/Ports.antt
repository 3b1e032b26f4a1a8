-- The target ports that page 83h tells behind the drive's name, at the caller's choice (RULES 6.4).
use Rattle.std.specs.Prelude.{Bool, cond, ◌&&◌, ◌||◌, not, List, [], ◌∷◌, ◌++◌, ℕ, ◌/◌, ◌%◌, eqb, length}
use Rattle.rules.specs.Bits.{bit}
use Rattle.port.specs.declared.Ports.{Ports}

-- Bit 0 chooses the relative target port, bit 1 the SAS target port; the other bits are not looked at.
abbrev pub relative_chosen : Ports → Bool
relative_chosen ports = bit 0 ports.chosen

abbrev pub sas_chosen : Ports → Bool
sas_chosen ports = bit 1 ports.chosen

-- The relative target port, 8 bytes: `61 94 00 04`, two zero bytes, and its number, high byte first.
abbrev pub relative_head : List ℕ
relative_head = 0x61 ∷ 0x94 ∷ 0x00 ∷ 0x04 ∷ 0x00 ∷ 0x00 ∷ []

abbrev pub relative_port : ℕ → List ℕ
relative_port number = relative_head ++ (number / 0x100 ∷ number % 0x100 ∷ [])

-- The SAS target port, 12 bytes: `61 93 00 08` and its address.
abbrev pub sas_port : List ℕ → List ℕ
sas_port address = 0x61 ∷ 0x93 ∷ 0x00 ∷ 0x08 ∷ address

-- What is chosen of them; what is not chosen is not looked at.
unfoldable pub relative_part : Ports → List ℕ
relative_part ports = cond (relative_chosen ports) (relative_port ports.relative) []

unfoldable pub sas_part : Ports → List ℕ → List ℕ
sas_part ports address = cond (sas_chosen ports) (sas_port address) []

-- The ports' part of the page: the relative one, then the SAS one.
abbrev pub ports_part : Ports → List ℕ → List ℕ
ports_part ports address = relative_part ports ++ sas_part ports address

-- 1: a chosen address that is not of 8 bytes.
unfoldable pub wrong_address : Ports → List ℕ → Bool
wrong_address ports address = sas_chosen ports && not (eqb (length address) 8)

-- 19: a chosen number of a relative target port that is not 1 or 2.
abbrev pub is_port : ℕ → Bool
is_port number = eqb number 1 || eqb number 2

unfoldable pub wrong_port : Ports → Bool
wrong_port ports = relative_chosen ports && not (is_port ports.relative)
