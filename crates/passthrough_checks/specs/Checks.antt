-- The checks of a pass-through command, by their numbers in the table (RULES 3 and 8.4). Of the lent registers and the sense room
-- only the sizes are asked, and of the record whether anything is pending, and whether a reset is. Of the edition they ask whether it is
-- the later one: in the first the block is not looked at.
use Rattle.std.specs.Prelude.{Bool, cond, ◌&&◌, ◌||◌, not, List, [], ◌∷◌, ℕ, eqb, ltb, length, get_or}
use Rattle.rules.specs.First.{Check, ◌when◌, first}
use Rattle.checksum.specs.Checksum.{damaged}
use Rattle.passthrough_fields.specs.Fields.{long, longest, size, service_action, protocol, t_dir, t_length, naca}
use Rattle.passthrough_length.specs.Length.{block_size, lacking, length_of}
use Rattle.passthrough_order.specs.Order.{without_data, from_drive, to_drive, with_data, reset}

-- 1: registers not of 11 bytes, or a sense room below 22.
abbrev pub wrong_size : ℕ → ℕ → Bool
wrong_size registers sense = not (eqb registers 11) || ltb sense 22

-- 1, in the later edition: a block that has neither 512 bytes nor none.
abbrev pub wrong_block : Bool → ℕ → Bool
wrong_block later block = later && not (eqb block 512 || eqb block 0)

-- 18, in the later edition: a damaged block.
abbrev pub damaged_block : Bool → List ℕ → Bool
damaged_block later block = later && damaged block

-- 3: neither 85h nor A1h; 7Fh is served in the later edition alone.
abbrev pub wrong_opcode : Bool → List ℕ → Bool
wrong_opcode later command = cond (longest command) (not later) (not (long command || eqb (get_or command 0 0) 0xA1))

-- 20: another command with the opcode of the 32-byte form.
abbrev pub wrong_action : List ℕ → Bool
wrong_action command = longest command && not (service_action command)

-- 9: a PROTOCOL that is not served.
abbrev pub wrong_protocol : ℕ → Bool
wrong_protocol p = eqb p 2 || eqb p 7 || eqb p 12 || eqb p 13 || eqb p 14

-- 10: a reset waits for a reset alone, and gets past every other order; any other order waits for whatever is pending. Protocol 15
-- makes no order, and waits for nothing.
abbrev pub waits : Bool → Bool → ℕ → Bool
waits pending reset_pending p = cond (reset p) reset_pending (pending && not (eqb p 15))

-- 11: T_LENGTH with a protocol that has no data, or none with one that has.
abbrev pub wrong_length : ℕ → ℕ → Bool
wrong_length p t_length = without_data p && not (eqb t_length 0) || with_data p && eqb t_length 0

-- 12: T_DIR against the protocol's direction; protocol 6 takes either.
abbrev pub wrong_direction : ℕ → Bool → Bool
wrong_direction p dir = from_drive p && not dir || to_drive p && dir

-- 6: data counted in logical sectors, whose size no block tells.
abbrev pub no_block : ℕ → Bool → Bool
no_block p lack = with_data p && lack

-- 13: data of length 0.
abbrev pub no_length : ℕ → ℕ → Bool
no_length p bytes = with_data p && eqb bytes 0

-- 14: more data than the host declared.
abbrev pub too_long : ℕ → ℕ → ℕ → Bool
too_long p bytes declared = with_data p && ltb declared bytes

-- All of them in their order.
abbrev pub checks_of : Bool → Bool → Bool → List ℕ → ℕ → List ℕ → ℕ → ℕ → List Check
checks_of pending reset_pending later command registers block declared sense =
    (1 when wrong_size registers sense)
    ∷ (1 when wrong_block later (length block))
    ∷ (18 when damaged_block later block)
    ∷ (2 when eqb (length command) 0)
    ∷ (3 when wrong_opcode later command)
    ∷ (2 when ltb (length command) (size command))
    ∷ (4 when naca command)
    ∷ (20 when wrong_action command)
    ∷ (9 when wrong_protocol (protocol command))
    ∷ (10 when waits pending reset_pending (protocol command))
    ∷ (11 when wrong_length (protocol command) (t_length command))
    ∷ (12 when wrong_direction (protocol command) (t_dir command))
    ∷ (6 when no_block (protocol command) (lacking later block command))
    ∷ (13 when no_length (protocol command) (length_of (block_size later block command) command declared))
    ∷ (14 when too_long (protocol command) (length_of (block_size later block command) command declared) declared)
    ∷ []

-- The number of the first that applies, and 0 where none does.
unfoldable pub refusal_of : Bool → Bool → Bool → List ℕ → ℕ → List ℕ → ℕ → ℕ → ℕ
refusal_of pending reset_pending later command registers block declared sense =
    first (checks_of pending reset_pending later command registers block declared sense)
