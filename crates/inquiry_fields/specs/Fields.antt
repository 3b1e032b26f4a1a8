-- The fields of an INQUIRY command (RULES 4).
use Rattle.std.specs.Prelude.{Bool, List, ℕ, ◌+◌, ◌*◌, get_or}
use Rattle.rules.specs.Bits.{bit}

-- EVPD: byte 1 bit 0.
abbrev pub evpd : List ℕ → Bool
evpd command = bit 0 (get_or command 1 0)

-- CMDDT: byte 1 bit 1.
abbrev pub cmddt : List ℕ → Bool
cmddt command = bit 1 (get_or command 1 0)

-- The page code: byte 2.
abbrev pub page_code : List ℕ → ℕ
page_code command = get_or command 2 0

-- The allocation length: bytes 3 and 4, high byte first.
abbrev pub allocation : List ℕ → ℕ
allocation command = 0x100 * get_or command 3 0 + get_or command 4 0

-- NACA: bit 2 of the control byte, which is byte 5.
abbrev pub naca : List ℕ → Bool
naca command = bit 2 (get_or command 5 0)
