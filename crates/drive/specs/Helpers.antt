-- No rules: names for contracts of functions below the entries.
use Rattle.std.specs.Prelude.{List, [], ◌∷◌, ℕ, ◌+◌, ◌*◌}

-- Bytes as one number, the first of them lowest.
unfoldable pub number : List ℕ → ℕ
number [] = 0
number (byte ∷ bytes) = byte + 0x100 * number bytes
