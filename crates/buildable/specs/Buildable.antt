-- The orders that a command makes (RULES 16.2): lists of what has to hold of each.
use Rattle.std.specs.Prelude.{Bool, true, cond, ◌&&◌, ◌||◌, not, List, [], ◌∷◌, ℕ, eqb, ltb}
use Rattle.passthrough_order.specs.declared.Order.{Order}
use Rattle.passthrough_order.specs.Order.{without_data, from_drive, to_drive, with_data, reset}
use Rattle.buildable.specs.Fields.{off_line_for, multiple_count_for}

-- Every test of a list holds.
abbrev pub every : List Bool → Bool
every [] = true
every (test ∷ tests) = test && every tests

-- No register has an upper byte, which EXTEND zero would lose.
abbrev pub without_upper : Order → List Bool
without_upper o =
    ltb o.features 0x100
    ∷ ltb o.count 0x100
    ∷ ltb o.lba_low 0x100
    ∷ ltb o.lba_mid 0x100
    ∷ ltb o.lba_high 0x100
    ∷ []

-- A direction that the protocol has: 1, from the drive, unless data go to it alone; 2, to it, unless they come from it alone.
abbrev pub has_direction : ℕ → ℕ → Bool
has_direction p direction = cond (eqb direction 1) (not (to_drive p)) (eqb direction 2 && not (from_drive p))

-- With data there is a length and a direction, and without data there is neither.
abbrev pub data_fit : Order → Bool
data_fit o =
    cond (with_data o.protocol)
    (not (eqb o.length 0) && has_direction o.protocol o.direction)
    (eqb o.length 0 && eqb o.direction 0)

-- An order that is no reset has a protocol that is served, CK_COND and EXTEND of one bit, no upper bytes without EXTEND, sectors that
-- MULTIPLE_COUNT can give, and data as its protocol has them.
abbrev pub of_command : Order → List Bool
of_command o =
    (without_data o.protocol || with_data o.protocol)
    ∷ ltb o.ck_cond 2
    ∷ ltb o.extend 2
    ∷ (eqb o.extend 1 || every (without_upper o))
    ∷ ltb (multiple_count_for o.sectors_per_block) 8
    ∷ data_fit o
    ∷ []

-- A reset has its protocol, its quiet seconds, one sector a block, and zero elsewhere.
abbrev pub of_reset : Order → List Bool
of_reset o =
    eqb o.length 0
    ∷ eqb o.features 0
    ∷ eqb o.count 0
    ∷ eqb o.lba_low 0
    ∷ eqb o.lba_mid 0
    ∷ eqb o.lba_high 0
    ∷ eqb o.sectors_per_block 1
    ∷ eqb o.device 0
    ∷ eqb o.command 0
    ∷ eqb o.ck_cond 0
    ∷ eqb o.extend 0
    ∷ eqb o.direction 0
    ∷ []

-- Either has no auxiliary number, for which neither form has a place, and quiet seconds that OFF_LINE can give.
abbrev pub tests : Order → List Bool
tests o =
    eqb o.auxiliary 0
    ∷ ltb (off_line_for o.quiet_seconds) 4
    ∷ cond (reset o.protocol) (every (of_reset o)) (every (of_command o))
    ∷ []

unfoldable pub buildable : Order → Bool
buildable o = every (tests o)
