-- Page 83h: the page that names the drive (RULES 6.4).
use Rattle.std.specs.Prelude.{cond, not, ◌||◌, List, [], ◌∷◌, ◌++◌, ℕ, eqb, ltb, length}
use Rattle.rules.specs.First.{Check, ◌when◌, first}
use Rattle.room.specs.Room.{written}
use Rattle.checksum.specs.Checksum.{damaged}
use Rattle.port.specs.declared.Ports.{Ports}
use Rattle.port.specs.Ports.{ports_part, wrong_address, wrong_port}
use Rattle.page83_drive.specs.Descriptor.{head, drive_descriptor}
use Rattle.page83.specs.declared.Written.{Written}

-- The page of a block: its head, the drive's descriptor, and those of the ports that are chosen.
unfoldable pub page83 : List ℕ → Ports → List ℕ → List ℕ
page83 block ports address =
    head (length (drive_descriptor block ++ ports_part ports address)) ++ drive_descriptor block ++ ports_part ports address

-- The writer, for whoever has a block and room: 1 where the block is not 512 bytes, or a chosen address not 8; 18 where the block is
-- damaged; 19 where a chosen port is not 1 or 2; 8 where the room is shorter than the page.
abbrev pub checks : List ℕ → Ports → List ℕ → ℕ → List Check
checks block ports address room =
    (1 when not (eqb (length block) 512) || wrong_address ports address)
    ∷ (18 when damaged block)
    ∷ (19 when wrong_port ports)
    ∷ (8 when ltb room (length (page83 block ports address)))
    ∷ []

unfoldable pub refusal_of : List ℕ → Ports → List ℕ → ℕ → ℕ
refusal_of block ports address room = first (checks block ports address room)

-- Everything that comes back, and every lent byte that can change.
pub record Outcome : Type 0 where
  pub written : Written
  pub room : List ℕ

abbrev pub outcome : Written → List ℕ → Outcome
outcome answer room = record { written = answer; room = room }

unfoldable pub write : List ℕ → Ports → List ℕ → List ℕ → Outcome
write block ports address room =
    cond (eqb (refusal_of block ports address (length room)) 0)
    (outcome (record { number = 0; count = length (page83 block ports address) }) (written room 0 (page83 block ports address)))
    (outcome (record { number = refusal_of block ports address (length room); count = 0 }) room)
