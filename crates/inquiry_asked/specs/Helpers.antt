-- No rules: names for contracts of functions below the entry.
use Rattle.std.specs.Prelude.{◌≡◌, Bool, true, false, ◌&&◌, ◌||◌, not, List, ℕ, ◌≤◌, eqb, length}
use Rattle.port.specs.Ports.{wrong_address}
use Rattle.pages.specs.Helpers.{WholeOrNone}
use Rattle.packet.specs.Packet.{unusable}
use Rattle.inquiry_fields.specs.Fields.{evpd, page_code}
use Rattle.inquiry_asked.specs.Request.{Request, is_packet}

-- Whether page 83h is asked for.
abbrev pub drive_asked : Bool → List ℕ → Bool
drive_asked packet command = not packet && (evpd command && eqb (page_code command) 0x83)

-- Whether the page is made of the block.
abbrev pub from_block : Bool → List ℕ → Bool
from_block packet command =
    not packet && not (evpd command) || eqb (page_code command) 0x80 || eqb (page_code command) 0x83

-- What writing the page takes for granted, once the checks have passed.
pub record Servable (q : Request) : Type 0 where
  pub command : 6 ≤ length q.command
  pub texts : length q.texts ≡ 28
  pub signature : length q.signature ≡ 20
  pub reply : (eqb (page_code q.command) 0x00 && is_packet q && unusable q.reply) ≡ false
  pub block : from_block (is_packet q) q.command ≡ true → length q.block ≡ 512
  pub whole_or_none : WholeOrNone q.block
  pub address : wrong_address q.ports q.address ≡ false
