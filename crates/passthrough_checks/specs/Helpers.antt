-- No rules: the checks in the parts in which the code runs them.
use Rattle.std.specs.Prelude.{Bool, not, ◌&&◌, List, [], ◌∷◌, ◌++◌, ℕ, eqb, ltb, length, get_or}
use Rattle.rules.specs.Bits.{bit}
use Rattle.rules.specs.First.{Check, ◌when◌, first}
use Rattle.passthrough_fields.specs.Fields.{size, service_action, protocol, t_dir, t_length, naca}
use Rattle.passthrough_checks.specs.Checks.{wrong_size, wrong_block, damaged_block, wrong_opcode, wrong_action, wrong_protocol, waits, wrong_length, wrong_direction, no_block, no_length, too_long}

-- 1 and 18, which look at the block.
abbrev pub block_checks : Bool → List ℕ → List Check
block_checks later block =
    (1 when wrong_block later (length block))
    ∷ (18 when damaged_block later block)
    ∷ []

-- 2 and 4 of a form that has a size, and its control byte at a place.
abbrev pub sized_checks : List ℕ → ℕ → ℕ → List Check
sized_checks command bytes control =
    (2 when ltb (length command) bytes)
    ∷ (4 when bit 2 (get_or command control 0))
    ∷ []

-- 3, 2, 4 and 20 of the 32-byte form.
abbrev pub longest_checks : Bool → List ℕ → List Check
longest_checks later command = (3 when not later) ∷ (sized_checks command 32 1 ++ ((20 when not (service_action command)) ∷ []))

-- Those of every form.
abbrev pub form_checks : Bool → List ℕ → List Check
form_checks later command =
    (3 when wrong_opcode later command)
    ∷ (2 when ltb (length command) (size command))
    ∷ (4 when naca command)
    ∷ (20 when wrong_action command)
    ∷ []

-- 9 to 12, which look at fields of the command alone, and at what is pending.
abbrev pub field_checks : Bool → Bool → ℕ → ℕ → Bool → List Check
field_checks pending reset_pending p t_length dir =
    (9 when wrong_protocol p)
    ∷ (10 when waits pending reset_pending p)
    ∷ (11 when wrong_length p t_length)
    ∷ (12 when wrong_direction p dir)
    ∷ []

-- 6, 13 and 14, which look at the length, of a command that has data or has none.
abbrev pub data_checks : Bool → Bool → ℕ → ℕ → List Check
data_checks hasData lack bytes declared =
    (6 when hasData && lack)
    ∷ (13 when hasData && eqb bytes 0)
    ∷ (14 when hasData && ltb declared bytes)
    ∷ []

-- The same by its protocol.
abbrev pub length_checks : ℕ → Bool → ℕ → ℕ → List Check
length_checks p lack bytes declared =
    (6 when no_block p lack)
    ∷ (13 when no_length p bytes)
    ∷ (14 when too_long p bytes declared)
    ∷ []

-- Those behind the block's that do not look at the length.
abbrev pub after_block : Bool → Bool → Bool → List ℕ → List Check
after_block pending reset_pending later command =
    (2 when eqb (length command) 0)
    ∷ (form_checks later command ++ field_checks pending reset_pending (protocol command) (t_length command) (t_dir command))

-- All that do not look at the length.
abbrev pub command_checks : Bool → Bool → Bool → List ℕ → ℕ → List ℕ → ℕ → List Check
command_checks pending reset_pending later command registers block sense =
    (1 when wrong_size registers sense)
    ∷ (block_checks later block ++ after_block pending reset_pending later command)

unfoldable pub early_refusal : Bool → Bool → Bool → List ℕ → ℕ → List ℕ → ℕ → ℕ
early_refusal pending reset_pending later command registers block sense =
    first (command_checks pending reset_pending later command registers block sense)
