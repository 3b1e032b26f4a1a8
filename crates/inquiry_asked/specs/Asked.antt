-- The page that an INQUIRY asks for, and how much of it is to be written (RULES 4).
use Rattle.std.specs.Prelude.{cond, ◌&&◌, not, List, ℕ, min, eqb, length}
use Rattle.page83.specs.Page83.{page83}
use Rattle.pages.specs.Page.{standard, page00, page80, page89}
use Rattle.packet.specs.Packet.{page00 as packet_page00}
use Rattle.inquiry_fields.specs.Fields.{evpd, page_code, allocation}
use Rattle.inquiry_asked.specs.Request.{Request, is_packet}

-- The page, whole. Without EVPD that is standard data; a packet drive's is never made here.
unfoldable pub page : Request → List ℕ
page q =
    cond (not (is_packet q) && not (evpd q.command)) (standard q.block)
    (cond (eqb (page_code q.command) 0x00) (cond (is_packet q) (packet_page00 q.reply) page00)
    (cond (eqb (page_code q.command) 0x80) (page80 q.block)
    (cond (eqb (page_code q.command) 0x83) (page83 q.block q.ports q.address)
    (page89 (is_packet q) q.texts q.signature q.block))))

-- n, the bytes to write: the page's size, or the allocation length where that is less.
abbrev pub to_write : Request → ℕ
to_write q = min (length (page q)) (allocation q.command)
