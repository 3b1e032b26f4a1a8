-- No rules: names for contracts of functions below `build`.
use Rattle.std.specs.Prelude.{List, [], ◌∷◌, ◌++◌, ℕ, ◌/◌, ◌%◌}
use Rattle.builder.specs.declared.packed.Packed.{Packed}

-- The eight bytes of a number, the lowest first.
abbrev pub eight_bytes : ℕ → List ℕ
eight_bytes n =
    n % 0x100
    ∷ n / 0x100 % 0x100
    ∷ n / 0x10000 % 0x100
    ∷ n / 0x1000000 % 0x100
    ∷ n / 0x100000000 % 0x100
    ∷ n / 0x10000000000 % 0x100
    ∷ n / 0x1000000000000 % 0x100
    ∷ n / 0x100000000000000 % 0x100
    ∷ []

-- The bytes that are packed.
abbrev pub bytes_of : Packed → List ℕ
bytes_of packed = eight_bytes packed.first ++ eight_bytes packed.second
