-- The census: how many blocks were fed, and how many of each class (RULES 14).
use Rattle.std.specs.Prelude.{Bool, cond, ◌||◌, not, List, [], ◌∷◌, ℕ, ◌+◌, ◌-◌, eqb, length, get_or, set, replicate}
use Rattle.rules.specs.Bits.{flag}
use Rattle.rules.specs.First.{Check, ◌when◌, first}
use Rattle.checksum.specs.Checksum.{sum_of, damaged}
use Rattle.identify.specs.Names.{carries_name}
use Rattle.classes.specs.Classes.{ultra_dma, major_version}
use Rattle.tally.specs.declared.Census.{Census}
use Rattle.tally.specs.declared.Fed.{Fed}

abbrev pub census : ℕ → ℕ → ℕ → List ℕ → List ℕ → Census
census blocks named unnamed udma version =
    record { blocks = blocks; named = named; unnamed = unnamed; udma = udma; version = version }

-- Nothing is counted yet.
abbrev pub empty : Census
empty = census 0 0 0 (replicate 8 0) (replicate 15 0)

-- The place of a mode's count is the mode, and that of none is behind them; versions begin with 1.
abbrev pub mode_place : List ℕ → ℕ
mode_place block = ultra_dma block

abbrev pub version_place : List ℕ → ℕ
version_place block = major_version block - 1

-- Some grouping (name form, Ultra DMA mode, major version) does not sum to the blocks fed.
unfoldable pub uneven : Census → Bool
uneven c =
    not (eqb (c.named + c.unnamed) c.blocks)
    || not (eqb (sum_of c.udma) c.blocks)
    || not (eqb (sum_of c.version) c.blocks)

-- No block can be counted in it: it has 65,535 already, or is no census that feeding makes.
abbrev pub closed : Census → Bool
closed c = eqb c.blocks 65535 || uneven c

abbrev pub checks : Census → List ℕ → List Check
checks c block =
    (1 when not (eqb (length block) 512))
    ∷ (17 when closed c)
    ∷ (18 when damaged block)
    ∷ []

unfoldable pub refusal_of : Census → List ℕ → ℕ
refusal_of c block = first (checks c block)

-- One more at a place.
abbrev pub raised : List ℕ → ℕ → List ℕ
raised counts place = set counts place (get_or counts place 0 + 1)

-- A block counted in its three classes.
abbrev pub counted : Census → List ℕ → Census
counted c block =
    census (c.blocks + 1) (c.named + flag (carries_name block)) (c.unnamed + flag (not (carries_name block)))
    (raised c.udma (mode_place block))
    (raised c.version (version_place block))

abbrev pub answer : Census → ℕ → Fed
answer next number = record { next = next; number = number }

-- A refusal returns the census that it was given.
unfoldable pub feed : Census → List ℕ → Fed
feed c block = cond (eqb (refusal_of c block) 0) (answer (counted c block) 0) (answer c (refusal_of c block))
