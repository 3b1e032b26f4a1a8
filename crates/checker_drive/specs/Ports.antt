-- The ports that a page 83h itself says it tells (RULES 15.3). The page is made with them; no other choice agrees further with it.
use Rattle.std.specs.Prelude.{cond, List, ◌++◌, ℕ, ◌+◌, ◌-◌, eqb, length, get_or, take, drop, replicate}
use Rattle.port.specs.declared.Ports.{Ports}
use Rattle.port.specs.Ports.{relative_part}
use Rattle.page83_drive.specs.Descriptor.{drive_descriptor}
use Rattle.page83.specs.Page83.{page83}

-- Byte 3 tells the size of all descriptors, and so which ports follow a drive's descriptor of this size; where it tells of none, none.
abbrev pub chosen_by : ℕ → ℕ → ℕ
chosen_by drive size =
    cond (eqb size (drive + 8)) 1
    (cond (eqb size (drive + 12)) 2
    (cond (eqb size (drive + 20)) 3
    0))

-- The relative port is 2 where its last byte is, and else 1.
abbrev pub port_by : ℕ → ℕ
port_by byte = cond (eqb byte 2) 2 1

-- Of a page whose drive's descriptor ends at `end`.
abbrev pub ports_in : ℕ → List ℕ → Ports
ports_in end page = record { chosen = chosen_by (end - 4) (get_or page 3 0); relative = port_by (get_or page (end + 7) 0) }

-- The address is the eight bytes behind a head of four, zeros where the page ends before.
abbrev pub address_in : ℕ → List ℕ → List ℕ
address_in at page = take 8 (drop (at + 4) page ++ replicate 8 0x00)

-- The page of a block with the ports that a page tells.
unfoldable pub claimed_ports : List ℕ → List ℕ → Ports
claimed_ports block page = ports_in (4 + length (drive_descriptor block)) page

unfoldable pub claimed_address : List ℕ → List ℕ → List ℕ
claimed_address block page = address_in (4 + length (drive_descriptor block) + length (relative_part (claimed_ports block page))) page

unfoldable pub claimed_page : List ℕ → List ℕ → List ℕ
claimed_page block page = page83 block (claimed_ports block page) (claimed_address block page)
