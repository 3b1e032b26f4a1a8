-- Bits of a byte or a word, numbered as SCSI and ATA number them: bit 0 is the lowest (RULES 1).
use Rattle.std.specs.Prelude.{Bool, cond, ℕ, ◌+◌, ◌-◌, ◌/◌, ◌%◌, ◌^◌, eqb}

-- Bit k is one.
abbrev pub bit : ℕ → ℕ → Bool
bit k n = eqb (n / 2 ^ k % 2) 1

-- Bits high:low, as a number.
abbrev pub bits : ℕ → ℕ → ℕ → ℕ
bits high low n = n / 2 ^ low % 2 ^ (high + 1 - low)

-- A yes or no as a number: 1 or 0.
abbrev pub flag : Bool → ℕ
flag set = cond set 1 0
