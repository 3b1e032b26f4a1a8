-- Laws of a page 83h beside the page of a block with the ports that it tells.
use mathlib.Core.Path.{◌≡◌}
use mathlib.Core.Bool.{Bool, true, false, cond, and-false}
use mathlib.Core.List.{List, ◌++◌}
use Prim.Native.Nat.{ℕ, ◌+◌, ◌≤◌}
use native.Mathlib.Omega.{arith}
use lib.ListN.{length, length-append, length-take, length-replicate}
use borrow.Author.Tests.{eq-eqb}
use Rattle.identify.specs.Names.{carries_name}
use Rattle.port.specs.declared.Ports.{Ports}
use Rattle.port.specs.Ports.{relative_chosen, relative_part, ports_part, wrong_address}
use Rattle.page83_drive.specs.Descriptor.{head, drive_descriptor}
use Rattle.page83.specs.Page83.{page83}
use Rattle.port.specs.Helpers.{ports_size}
use Rattle.page83_drive.specs.Helpers.{drive_end}
use Rattle.page83.specs.Helpers.{page_size}
use Rattle.port.proofs.Laws.{length_relative}
use Rattle.page83_drive.proofs.Laws.{length_drive}
use Rattle.page83.proofs.Laws.{named_or_not, page_size_is}
use Rattle.checker_drive.specs.Ports.{ports_in, address_in, claimed_ports, claimed_address, claimed_page}

-- An address that a field tells has eight bytes.
pub length_address : (at : ℕ) (page : List ℕ) → length (address_in at page) ≡ 8
length_address at page = simp (length-take, length-append, length-replicate) (omega arith)

pub right_length : (ports : Ports) (address : List ℕ) → length address ≡ 8 → wrong_address ports address ≡ false
unfolding wrong_address
right_length ports address e = rw (eq-eqb (length address) 8 e, and-false)

-- The relative port's descriptor has eight bytes at most.
pub relative_most : (ports : Ports) → length (relative_part ports) ≤ 8
relative_most ports = rw (length_relative ports) (by (relative_chosen ports))
  where
    by : (b : Bool) → cond b 8 0 ≤ 8
    by true = omega arith
    by false = omega arith

-- The ports that a page tells, where the drive's descriptor ends.
module _ (block page : List ℕ) (h : length block ≡ 512) where
  pub claimed_ports_is : claimed_ports block page ≡ ports_in (drive_end (carries_name block)) page
  unfolding claimed_ports
  claimed_ports_is = rw (length_drive block h)

  pub claimed_page_is : claimed_page block page ≡ page83 block (ports_in (drive_end (carries_name block)) page) (address_in (drive_end (carries_name block) + length (relative_part (ports_in (drive_end (carries_name block)) page))) page)
  unfolding claimed_page claimed_address
  claimed_page_is = rw (claimed_ports_is, length_drive block h)

-- Where the drive's descriptor ends, in either form.
pub drive_ends : (named : Bool) → (16 ≤ drive_end named) × (drive_end named ≤ 76)
drive_ends true = (omega arith, omega arith)
drive_ends false = (omega arith, omega arith)

-- The page with the address that a field tells, its pieces to the right.
module _ (block : List ℕ) (ports : Ports) (at : ℕ) (page : List ℕ) (h : length block ≡ 512) where
  pub told_page : page83 block ports (address_in at page) ≡ head (length (drive_descriptor block) + ports_size ports) ++ (drive_descriptor block ++ ports_part ports (address_in at page))
  told_page = named_or_not block ports (address_in at page) h (right_length ports (address_in at page) (length_address at page))

  pub told_size : length (page83 block ports (address_in at page)) ≡ page_size block ports
  told_size = page_size_is block ports (address_in at page) h (right_length ports (address_in at page) (length_address at page))
