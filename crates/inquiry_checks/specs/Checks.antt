-- The checks of INQUIRY, by their numbers in the table (RULES 3 and 4).
use Rattle.std.specs.Prelude.{Bool, ◌&&◌, ◌||◌, not, List, [], ◌∷◌, ℕ, eqb, ltb, length, get_or}
use Rattle.rules.specs.First.{Check, ◌when◌, first}
use Rattle.checksum.specs.Checksum.{damaged}
use Rattle.port.specs.declared.Ports.{Ports}
use Rattle.port.specs.Ports.{wrong_address, wrong_port}
use Rattle.packet.specs.Packet.{unusable}
use Rattle.inquiry_fields.specs.Fields.{evpd, cmddt, page_code, naca}
use Rattle.inquiry_asked.specs.Request.{Request, is_packet, passes_through}
use Rattle.inquiry_asked.specs.Asked.{to_write}

-- 1: a block of neither 512 bytes nor none, a signature not of 20, texts not of 28, a chosen address not of 8, or a sense room
-- below 22.
abbrev pub wrong_size : List ℕ → List ℕ → List ℕ → Ports → List ℕ → ℕ → Bool
wrong_size block signature texts ports address sense =
    not (eqb (length block) 512 || eqb (length block) 0)
    || not (eqb (length signature) 20)
    || not (eqb (length texts) 28)
    || wrong_address ports address
    || ltb sense 22

-- 4: NACA, CMDDT, or a page code without EVPD.
abbrev pub wrong_field : List ℕ → Bool
wrong_field command = naca command || cmddt command || not (evpd command) && not (eqb (page_code command) 0x00)

-- 5: a page, asked with EVPD, that is not 00h, 80h, 83h or 89h.
abbrev pub known_page : ℕ → Bool
known_page code = eqb code 0x00 || eqb code 0x80 || eqb code 0x83 || eqb code 0x89

abbrev pub wrong_page : List ℕ → Bool
wrong_page command = evpd command && not (known_page (page_code command))

-- 6: no block where standard data, 80h or 83h is asked.
abbrev pub no_block : List ℕ → List ℕ → Bool
no_block command block =
    eqb (length block) 0 && (not (evpd command) || eqb (page_code command) 0x80 || eqb (page_code command) 0x83)

-- 19: page 83h is asked, and the chosen relative target port is not 1 or 2.
abbrev pub no_port : List ℕ → Ports → Bool
no_port command ports = evpd command && eqb (page_code command) 0x83 && wrong_port ports

-- 7: a packet drive is asked for page 00h, and its own is unusable.
abbrev pub no_list : Bool → List ℕ → List ℕ → Bool
no_list packet command reply =
    packet && not (passes_through packet command) && eqb (page_code command) 0x00 && unusable reply

-- All of them in their order. 4 to 6 and 19 do not concern packet drives, nor 8 a reply that passes through. Of room and sense room
-- they look at the size alone.
abbrev pub checks : Request → ℕ → ℕ → List Check
checks q room sense =
    (1 when wrong_size q.block q.signature q.texts q.ports q.address sense)
    ∷ (18 when damaged q.block)
    ∷ (2 when eqb (length q.command) 0)
    ∷ (3 when not (eqb (get_or q.command 0 0) 0x12))
    ∷ (2 when ltb (length q.command) 6)
    ∷ (4 when not (is_packet q) && wrong_field q.command)
    ∷ (5 when not (is_packet q) && wrong_page q.command)
    ∷ (6 when not (is_packet q) && no_block q.command q.block)
    ∷ (19 when not (is_packet q) && no_port q.command q.ports)
    ∷ (7 when no_list (is_packet q) q.command q.reply)
    ∷ (8 when not (passes_through (is_packet q) q.command) && ltb room (to_write q))
    ∷ []

-- The number of the first that applies, and 0 where none does.
unfoldable pub refusal_of : Request → ℕ → ℕ → ℕ
refusal_of q room sense = first (checks q room sense)
