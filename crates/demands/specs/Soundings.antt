-- Soundings C1 to C13 (RULES 13): each row an input and everything that is said of its outcome, asked of the rules themselves, with
-- no form of sense data stated.
use Rattle.std.specs.Prelude.{◌≡◌, Bool, true, ◌&&◌, List, [], ◌∷◌, ◌++◌, ℕ, eqb, length, drop, replicate}
use Rattle.identify.specs.Bytes.{equal}
use Rattle.sense.specs.Sense.{descriptor}
use Rattle.refusals.specs.Refusal.{row_of, refused_sense, good, check_condition, no_status}
use Rattle.inquiry_asked.specs.Request.{request}
use Rattle.inquiry.specs.Inquiry.{inquiry, Outcome}
use Rattle.passthrough_order.specs.declared.Order.{Order}
use Rattle.passthrough_order.specs.Order.{no_order}
use Rattle.passthrough.specs.Record.{empty}
use Rattle.passthrough.specs.Submit.{submit, Outcome as Submission}
use Rattle.passthrough.specs.Complete.{complete, Outcome as Completion}

-- The first block of the roll's sample: zero but for word 87, which says that there is a name, and the name, in bytes 216 to 223.
abbrev pub block0 : List ℕ
block0 = replicate 174 0x00 ++ (0x00 ∷ 0x41 ∷ []) ++ replicate 40 0x00 ++ (0x00 ∷ 0x50 ∷ 0x00 ∷ 0xC5 ∷ 0x34 ∷ 0x12 ∷ 0x78 ∷ 0x56 ∷ []) ++ replicate 288 0x00

-- Room and sense room are lent with a byte that no reply has at their ends.
abbrev pub room : List ℕ
room = replicate 600 0xEE

abbrev pub sense_room : List ℕ
sense_room = replicate 24 0xEE

-- What an INQUIRY shows: its number, status and bytes, a part of the room; room past them untouched, and no sense byte but a
-- refusal's.
abbrev pub shows : ℕ → ℕ → List ℕ → Outcome → Bool
shows number status bytes o =
    eqb o.answer.number number
    && eqb o.answer.status status
    && eqb o.answer.shown 1
    && eqb o.answer.count (length bytes)
    && equal o.room (bytes ++ drop (length bytes) room)
    && equal o.sense (refused_sense descriptor number sense_room)

abbrev pub ask : List ℕ → Outcome
ask command = inquiry (request command block0 (replicate 20 0x00) (replicate 28 0x00) [] (record { chosen = 0; relative = 0 }) []) descriptor room sense_room

-- The registers of C12; and a command sent to an empty record.
abbrev pub registers : List ℕ
registers = 0x00 ∷ 0x00 ∷ 0xFF ∷ 0x00 ∷ 0x00 ∷ 0x00 ∷ 0x00 ∷ 0x00 ∷ 0x00 ∷ 0x00 ∷ 0x50 ∷ []

abbrev pub send : List ℕ → ℕ → Submission
send command declared = submit empty command registers [] declared 0 descriptor sense_room

-- Every field of an order.
abbrev pub fields : Order → List ℕ
fields o =
    o.length ∷ o.auxiliary ∷ o.features ∷ o.count ∷ o.lba_low ∷ o.lba_mid ∷ o.lba_high ∷ o.quiet_seconds ∷ o.sectors_per_block
    ∷ o.device ∷ o.command ∷ o.protocol ∷ o.ck_cond ∷ o.extend ∷ o.direction ∷ []

-- An order taken: direction and length, no status yet, the record filled with it, no sense byte.
abbrev pub takes : ℕ → ℕ → Submission → Bool
takes direction bytes o =
    eqb o.submitted.taken.number 0
    && eqb o.submitted.taken.status no_status
    && eqb o.submitted.taken.order.direction direction
    && eqb o.submitted.taken.order.length bytes
    && eqb o.submitted.next.state 1
    && equal (fields o.submitted.next.order) (fields o.submitted.taken.order)
    && equal o.sense sense_room

-- A command refused: its number and status, a zero order, the record as it was, the refusal's sense bytes.
abbrev pub refuses : ℕ → Submission → Bool
refuses number o =
    eqb o.submitted.taken.number number
    && eqb o.submitted.taken.status (row_of number).status
    && equal (fields o.submitted.taken.order) (fields no_order)
    && eqb o.submitted.next.state 0
    && equal (fields o.submitted.next.order) (fields no_order)
    && equal o.sense (refused_sense descriptor number sense_room)

-- An order ended: its status and sense bytes, and the record empty.
abbrev pub ends : ℕ → List ℕ → Completion → Bool
ends status bytes o =
    eqb o.completed.ended.number 0
    && eqb o.completed.ended.status status
    && eqb o.completed.next.state 0
    && equal (fields o.completed.next.order) (fields no_order)
    && equal o.sense (bytes ++ drop (length bytes) sense_room)

-- C6's command with other bytes 1, 2 and 4.
abbrev pub identify : ℕ → ℕ → ℕ → List ℕ
identify b1 b2 count = 0xA1 ∷ b1 ∷ b2 ∷ 0x00 ∷ count ∷ 0x00 ∷ 0x00 ∷ 0x00 ∷ 0x00 ∷ 0xEC ∷ 0x00 ∷ 0x00 ∷ []

-- C12's command.
abbrev pub check_power : List ℕ
check_power = 0x85 ∷ 0x06 ∷ 0x20 ∷ replicate 11 0x00 ++ (0xE5 ∷ 0x00 ∷ [])

-- A block that tells the size of its sectors: word 106 is 5000h, and words 117 and 118 have these bytes.
abbrev pub telling : List ℕ → List ℕ
telling bytes = replicate 212 0x00 ++ (0x00 ∷ 0x50 ∷ []) ++ replicate 20 0x00 ++ bytes ++ replicate 274 0x00

-- A command in the later edition, and the 32-byte one: IDENTIFY DEVICE, with an auxiliary number.
abbrev pub send_later : List ℕ → List ℕ → ℕ → Submission
send_later block command declared = submit empty command registers block declared 2 descriptor sense_room

abbrev pub identify32 : List ℕ
identify32 =
    (0x7F ∷ replicate 6 0x00)
    ++ (0x18 ∷ 0x1F ∷ 0xF0 ∷ 0x08 ∷ 0x0E ∷ replicate 11 0x00)
    ++ (0x01 ∷ 0x00 ∷ 0xEC ∷ 0x00 ∷ 0x00 ∷ 0x01 ∷ 0x02 ∷ 0x03 ∷ 0x04 ∷ [])

-- The later edition: sectors of 4,096 bytes; the largest product; no block to tell the size; and the 32-byte command, which the first
-- edition does not know.
abbrev pub later_soundings : List Bool
later_soundings =
    takes 1 32768 (send_later (telling (0x00 ∷ 0x08 ∷ 0x00 ∷ 0x00 ∷ [])) (identify 0x08 0x1E 0x08) 32768)
    ∷ refuses 14 (send_later (telling (0x00 ∷ 0x08 ∷ 0x00 ∷ 0x00 ∷ [])) (identify 0x08 0x1E 0x08) 32767)
    ∷ refuses 14 (send_later (telling (0xFF ∷ 0xFF ∷ 0xFF ∷ 0xFF ∷ [])) (0x85 ∷ 0x09 ∷ 0x1E ∷ 0x00 ∷ 0x00 ∷ 0xFF ∷ 0xFF ∷ replicate 9 0x00) 0xFFFFFFFF)
    ∷ refuses 6 (send_later [] (identify 0x08 0x1E 0x08) 32768)
    ∷ takes 1 512 (send_later [] identify32 512)
    ∷ eqb (send_later [] identify32 512).submitted.taken.order.auxiliary 0x01020304
    ∷ refuses 3 (send identify32 512)
    ∷ []

abbrev pub soundings : List Bool
soundings =
    -- C1 `12 01 83 00 FF 00`
    shows 0 good (0x00 ∷ 0x83 ∷ 0x00 ∷ 0x0C ∷ 0x01 ∷ 0x03 ∷ 0x00 ∷ 0x08 ∷ 0x50 ∷ 0x00 ∷ 0xC5 ∷ 0x00 ∷ 0x12 ∷ 0x34 ∷ 0x56 ∷ 0x78 ∷ []) (ask (0x12 ∷ 0x01 ∷ 0x83 ∷ 0x00 ∷ 0xFF ∷ 0x00 ∷ []))
    -- C2 allocation 5
    ∷ shows 0 good (0x00 ∷ 0x83 ∷ 0x00 ∷ 0x0C ∷ 0x01 ∷ []) (ask (0x12 ∷ 0x01 ∷ 0x83 ∷ 0x00 ∷ 0x05 ∷ 0x00 ∷ []))
    -- C3 allocation 0
    ∷ shows 0 good [] (ask (0x12 ∷ 0x01 ∷ 0x83 ∷ 0x00 ∷ 0x00 ∷ 0x00 ∷ []))
    -- C4 `12 00 80 00 FF 00`
    ∷ shows 4 check_condition [] (ask (0x12 ∷ 0x00 ∷ 0x80 ∷ 0x00 ∷ 0xFF ∷ 0x00 ∷ []))
    -- C5 `12 01 B0 00 FF 00`
    ∷ shows 5 check_condition [] (ask (0x12 ∷ 0x01 ∷ 0xB0 ∷ 0x00 ∷ 0xFF ∷ 0x00 ∷ []))
    -- C6 `A1 08 0E 00 01 00 00 00 00 EC 00 00`, declared 512: from drive, 512 bytes
    ∷ takes 1 512 (send (identify 0x08 0x0E 0x01) 512)
    -- C7 declared 511
    ∷ refuses 14 (send (identify 0x08 0x0E 0x01) 511)
    -- C8 byte 2 as 06
    ∷ refuses 12 (send (identify 0x08 0x06 0x01) 512)
    -- C9 as 0C
    ∷ refuses 11 (send (identify 0x08 0x0C 0x01) 512)
    -- C10 count 00
    ∷ refuses 13 (send (identify 0x08 0x0E 0x00) 512)
    -- C11 byte 1 as 04
    ∷ refuses 9 (send (identify 0x04 0x0E 0x01) 512)
    -- C12 accepted; and its registers complete as written
    ∷ takes 0 0 (send check_power 0)
    ∷ ends check_condition (0x72 ∷ 0x01 ∷ 0x00 ∷ 0x1D ∷ 0x00 ∷ 0x00 ∷ 0x00 ∷ 0x0E ∷ 0x09 ∷ 0x0C ∷ 0x00 ∷ 0x00 ∷ 0x00 ∷ 0xFF ∷ 0x00 ∷ 0x00 ∷ 0x00 ∷ 0x00 ∷ 0x00 ∷ 0x00 ∷ 0x00 ∷ 0x50 ∷ [])
    (complete (send check_power 0).submitted.next registers descriptor sense_room)
    -- EXTEND, count FFFFh in blocks: the longest length that a field can ask for
    ∷ takes 1 33553920 (send (0x85 ∷ 0x09 ∷ 0x0E ∷ 0x00 ∷ 0x00 ∷ 0xFF ∷ 0xFF ∷ replicate 9 0x00) 33553920)
    -- C13 no command bytes, of either entry
    ∷ shows 2 check_condition [] (ask [])
    ∷ refuses 2 (send [] 0)
    ∷ []

abbrev pub all_true : List Bool → Bool
all_true [] = true
all_true (b ∷ bs) = b && all_true bs

abbrev pub SoundingsHold : Type 0
SoundingsHold = all_true soundings ≡ true

abbrev pub LaterSoundingsHold : Type 0
LaterSoundingsHold = all_true later_soundings ≡ true
