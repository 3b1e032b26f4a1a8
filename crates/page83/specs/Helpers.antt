-- No rules: names for contracts of functions below the entries.
use Rattle.std.specs.Prelude.{◌≡◌, List, ◌++◌, ℕ, ◌+◌, ◌≤◌, length}
use Rattle.room.specs.Room.{Wrote}
use Rattle.identify.specs.Names.{carries_name}
use Rattle.port.specs.declared.Ports.{Ports}
use Rattle.port.specs.Ports.{ports_part}
use Rattle.port.specs.Helpers.{ports_size}
use Rattle.page83_drive.specs.Descriptor.{head}
use Rattle.page83_drive.specs.Helpers.{drive_end}

-- The page's size, where a chosen address has its 8 bytes.
abbrev pub page_size : List ℕ → Ports → ℕ
page_size block ports = drive_end (carries_name block) + ports_size ports

-- A page without ports, of `end` bytes from the start of a room, gets them: what is behind its head, and they behind its end.
abbrev pub Grows : Ports → List ℕ → ℕ → ℕ → List ℕ → List ℕ → Type 0
Grows ports address end behind room after =
    (before drive : List ℕ) → end ≡ 4 + length drive → behind ≡ length drive + ports_size ports → Wrote before 0 (head (length drive) ++ drive) room
    → Wrote before 0 (head behind ++ drive ++ ports_part ports address) after

-- A page that is written whole, with its size, or not at all, with 0: it is whole where it is within an allocation length and the room.
pub record Whole (page : List ℕ) (most : ℕ) (room : List ℕ) (size : ℕ) (after : List ℕ) : Type 0 where
  pub none : size ≡ 0 → after ≡ room
  pub whole : (size ≡ 0 → ⊥) → (size ≡ length page) × ((size ≤ most) × ((size ≤ length room) × Wrote room 0 page after))
