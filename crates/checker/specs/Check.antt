-- The check of a capture: whether each of its fields is what our writers give (RULES 15).
use Rattle.std.specs.Prelude.{false, cond, not, List, [], ◌∷◌, ℕ, eqb, take, drop}
use Rattle.rules.specs.First.{Check, ◌when◌, first}
use Rattle.checksum.specs.Checksum.{damaged}
use Rattle.identify.specs.Bytes.{equal}
use Rattle.port.specs.declared.Ports.{Ports}
use Rattle.page83.specs.Page83.{page83}
use Rattle.pages.specs.Page.{standard, page00, page80, page89}
use Rattle.packet.specs.Packet.{packet_drive}
use Rattle.capture.specs.Capture.{Field, information, fields_of, holds, end}
use Rattle.agreement.specs.Agreed.{agreed}
use Rattle.checker_drive.specs.Ports.{claimed_ports, claimed_address}
use Rattle.checker.specs.declared.Checked.{Checked}

-- What page 89h tells: the translator's texts, the signature and the block.
abbrev pub texts_of : List ℕ → List ℕ
texts_of page = take 28 (drop 8 page)

abbrev pub signature_of : List ℕ → List ℕ
signature_of page = take 20 (drop 36 page)

abbrev pub block_of : List ℕ → List ℕ
block_of page = drop 60 page

-- What our writers give for a tag, of what page 89h tells; for page 83h, with these ports.
unfoldable pub ours : List ℕ → Ports → List ℕ → ℕ → List ℕ
ours page89h ports address tag =
    cond (eqb tag 0x00) page00
    (cond (eqb tag 0x01) (standard (block_of page89h))
    (cond (eqb tag 0x80) (page80 (block_of page89h))
    (cond (eqb tag 0x83) (page83 (block_of page89h) ports address)
    (page89 false (texts_of page89h) (signature_of page89h) (block_of page89h)))))

-- What a field is held beside: that, with the ports that the field itself tells.
unfoldable pub expected : List ℕ → Field → List ℕ
expected page89h f =
    ours page89h (claimed_ports (block_of page89h) f.bytes) (claimed_address (block_of page89h) f.bytes) f.tag

-- What comes back: accepted, the first field at fault with its first differing byte, or a refusal.
abbrev pub accepted : Checked
accepted = record { number = 0; accepted = 1; tag = 0; place = 0 }

abbrev pub differs : ℕ → ℕ → Checked
differs tag place = record { number = 0; accepted = 0; tag = tag; place = place }

abbrev pub refused : ℕ → ℕ → Checked
refused number place = record { number = number; accepted = 0; tag = 0; place = place }

-- The fields in their order, up to the first that is not what our writers give.
unfoldable pub judged : List ℕ → List Field → Checked
judged page89h [] = accepted
judged page89h (f ∷ fs) =
    cond (equal f.bytes (expected page89h f)) (judged page89h fs)
    (differs f.tag (agreed f.bytes (expected page89h f)))

-- 21: a broken layout; 22: a packet drive, which is not judged; 18: a damaged block.
abbrev pub checks : List ℕ → List Check
checks capture =
    (21 when not (holds capture))
    ∷ (22 when packet_drive (signature_of (information capture)))
    ∷ (18 when damaged (block_of (information capture)))
    ∷ []

unfoldable pub refusal_of : List ℕ → ℕ
refusal_of capture = first (checks capture)

-- A broken layout has its place; the other refusals have none.
unfoldable pub check : List ℕ → Checked
check capture =
    cond (eqb (refusal_of capture) 0) (judged (information capture) (fields_of capture))
    (refused (refusal_of capture) (cond (holds capture) 0 (end capture)))
