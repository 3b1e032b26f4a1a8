-- What a word behind a program's name asks for. A word is the list of its bytes.
use Rattle.std.specs.Prelude.{cond, List, [], ◌∷◌, ℕ, eqb, get_or, Option, None, Some}
use Rattle.std.specs.Str.{bytes_eq}
use Rattle.program_words.specs.declared.Wanted.{Wanted}
use Rattle.program_words.specs.declared.Wanted.TheVariants.{Read, Help, Version}

abbrev pub hyphen : ℕ
hyphen = 0x2D

-- "--help"
abbrev pub help : List ℕ
help = hyphen ∷ hyphen ∷ 0x68 ∷ 0x65 ∷ 0x6C ∷ 0x70 ∷ []

-- "--version"
abbrev pub version : List ℕ
version = hyphen ∷ hyphen ∷ 0x76 ∷ 0x65 ∷ 0x72 ∷ 0x73 ∷ 0x69 ∷ 0x6F ∷ 0x6E ∷ []

-- Two words are options; no other that begins with a hyphen asks for anything that there is; all that are left name files to read.
unfoldable pub wanted_by : List ℕ → Option Wanted
wanted_by word =
    cond (bytes_eq word help) (Some Help)
    (cond (bytes_eq word version) (Some Version)
    (cond (eqb (get_or word 0 0) hyphen) None
    (Some Read)))
