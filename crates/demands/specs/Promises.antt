-- The promises: what the rules say of the three demands, of the intake, of the census and of another maker's bridge, each a statement
-- with a name, in the demands' order.
-- Nothing is proved on this page; proofs/Kept has a proof of each. An entry's contract equates all that the entry does with the rule
-- that is named here, so that each promise is one about the entry.
use Rattle.std.specs.Prelude.{◌≡◌, Bool, true, false, cond, not, ◌&&◌, ◌||◌, ◌⊎◌, ◌↔◌, List, [], ◌∷◌, ◌++◌, ℕ, suc, ◌+◌, ◌*◌, ◌-◌, ◌/◌, ◌%◌, ◌^◌, ◌≤◌, ◌<◌, eqb, leb, length, get_or, take, drop, set, replicate}
use Rattle.rules.specs.Bits.{flag}
use Rattle.room.specs.Room.{written}
use Rattle.texts.specs.Text.{turned, spaced}
use Rattle.checksum.specs.Checksum.{sum_of, damaged_by, damaged}
use Rattle.sense_fixed.specs.Fixed.{fixed_sense}
use Rattle.sense.specs.Sense.{Told, is_fixed, descriptor_sense, unstated, fixed, descriptor, sense_data}
use Rattle.refusals.specs.Refusal.{no_status, check_condition, busy}
use Rattle.sense.specs.Carried.{sensed, in_fixed, in_descriptor}
use Rattle.identify.specs.Block.{serial, model, name}
use Rattle.identify.specs.Bytes.{Bytes}
use Rattle.identify.specs.Names.{carries_name}
use Rattle.drive.specs.Drive.{same_drive}
use Rattle.drive.specs.Words.{NameInWords, TextsInWords}
use Rattle.port.specs.declared.Ports.{Ports}
use Rattle.port.specs.Ports.{relative_chosen, sas_chosen, wrong_address, wrong_port}
use Rattle.page83.specs.Page83 as Page83
use Rattle.page83.specs.Page83.{page83, write}
use Rattle.page83_reader.specs.declared.Name.{Name}
use Rattle.page83_reader.specs.Reader as Reader
use Rattle.page83_reader.specs.Reader.{in_sixty, read}
use Rattle.inquiry_fields.specs.Fields.{evpd, cmddt, page_code, allocation, naca}
use Rattle.inquiry_asked.specs.Request.{Request, request, is_packet}
use Rattle.inquiry_asked.specs.Asked.{page}
use Rattle.inquiry_checks.specs.Checks.{wrong_size}
use Rattle.inquiry.specs.Inquiry as Inquiry
use Rattle.inquiry.specs.Inquiry.{inquiry, part}
use Rattle.passthrough_fields.specs.Fields as Fields
use Rattle.passthrough_fields.specs.Fields.{long, longest, size, protocol, t_length, t_type, t_dir, byte_block, ck_cond, extend}
use Rattle.passthrough_order.specs.declared.Order.{Order}
use Rattle.passthrough_order.specs.Order.{reset, no_order}
use Rattle.passthrough.specs.declared.Pending.{Pending}
use Rattle.passthrough.specs.Record.{empty, nothing_pending, reset_pending}
use Rattle.passthrough.specs.Submit as Submit
use Rattle.passthrough.specs.Submit.{is_later, made, submit}
use Rattle.passthrough.specs.Complete as Complete
use Rattle.passthrough_end.specs.End.{end_status, end_sense, is_set}
use Rattle.passthrough.specs.Complete.{complete}
use Rattle.passthrough.specs.History as History
use Rattle.passthrough.specs.History.{Step, Stacked, completion_of}
use Rattle.builder.specs.Builder.{built, build}
use Rattle.roll.specs.Roll as Roll
use Rattle.roll.specs.Roll.{roll, block_at}
use Rattle.intake.specs.declared.Intake.{Intake}
use Rattle.intake.specs.Intake as Intake
use Rattle.intake.specs.declared.Took.{Took}
use Rattle.intake.specs.Intake.{wrong_intake, taken, block_of}
use Rattle.intake.specs.Stream.{begin, step, runs, stream}
use Rattle.gathering.specs.Gathering as Gathering
use Rattle.gathering.specs.Gathering.{gathered, wrong_run, gather_of}
use Rattle.received.specs.Received as Received
use Rattle.received.specs.Received.{inquiry_of, roll_of}
use Rattle.received.specs.Stream.{Bay, Stores, haves_of, stores_of, block_in, blocks_of}
use Rattle.packet.specs.Packet.{packet_drive}
use Rattle.capture.specs.Capture.{Field, field, captured, information, holds}
use Rattle.capture.specs.Layout.{BrokenAt}
use Rattle.checker.specs.Check as Check
use Rattle.checker.specs.Check.{signature_of, check}
use Rattle.checker.specs.Judged.{Acceptable, AtFault, OfAPacketDrive, OfADamagedBlock}
use Rattle.classes.specs.Classes.{ultra_dma, no_mode, major_version, no_version}
use Rattle.tally.specs.declared.Census.{Census}
use Rattle.tally.specs.Census as Census
use Rattle.tally.specs.Census.{closed, feed}
use Rattle.tally.specs.Fleet.{feed_all, count_of, Countable, countables}
use Rattle.passthrough_checks.specs.Checks as PassChecks
use Rattle.demands.specs.FirstEdition as FirstEdition
use Rattle.demands.specs.Counts.{counts_of, points_at}
use Rattle.demands.specs.InquiryRead.{read_of_inquiry}
use Rattle.demands.specs.Answerable.{Answerable, AnswerableFrom}
use Rattle.demands.specs.Read.{read_of, places_read}
use Rattle.demands.specs.Counted.{width, counter, unit}
use Rattle.demands.specs.Soundings.{SoundingsHold, LaterSoundingsHold}

-- A number that came back is a refusal's.
abbrev pub Refused : ℕ → Type 0
Refused number = number ≡ 0 → ⊥

-- ## Every entry

-- An entry leaves no choice: what meets its contract for one input is one outcome.
abbrev pub Settled : {O : Type 0} → O → Type 0
Settled {O} outcome = (a b : O) → a ≡ outcome → b ≡ outcome → a ≡ b

pub record OneOutcome : Type 0 where
  pub of_inquiry : (q : Request) (form : ℕ) (room sense : List ℕ) → Settled (inquiry q form room sense)
  pub of_served : (reply room : List ℕ) (shown count : ℕ) → Settled (part reply room shown count)
  pub of_submit : (p : Pending) (command registers block : List ℕ) (declared edition form : ℕ) (sense : List ℕ) → Settled (submit p command registers block declared edition form sense)
  pub of_complete : (p : Pending) (registers : List ℕ) (form : ℕ) (sense : List ℕ) → Settled (complete p registers form sense)
  pub of_write : (block : List ℕ) (ports : Ports) (address room : List ℕ) → Settled (write block ports address room)
  pub of_read : (page : List ℕ) → Settled (read page)
  pub of_roll : (bytes room : List ℕ) → Settled (roll bytes room)
  pub of_take : (held : Intake) (store run : List ℕ) → Settled (taken held store run)
  pub of_block : (have store : ℕ) → Settled (Intake.offered have store)
  pub of_gather : (haves stores room : List ℕ) → Settled (gather_of haves stores room)
  pub of_inquiry_from_intake : (have : ℕ) (store command signature texts reply : List ℕ) (ports : Ports) (address : List ℕ) (form : ℕ) (room sense : List ℕ) → Settled (inquiry_of have store command signature texts reply ports address form room sense)
  pub of_roll_of_intakes : (haves stores room rows : List ℕ) → Settled (roll_of haves stores room rows)
  pub of_feed : (c : Census) (block : List ℕ) → Settled (feed c block)
  pub of_build : (o : Order) → Settled (build o)
  pub of_check : (capture : List ℕ) → Settled (check capture)

-- ## Demand 1

-- A refusal changes nothing lent but the sense bytes of its row, and hands back what a refusal hands back: the outcome of an entry
-- that refuses is the one that its number alone decides.
pub record RefusalsChangeNothing : Type 0 where
  pub of_inquiry : (q : Request) (form : ℕ) (room sense : List ℕ) → Refused (inquiry q form room sense).answer.number → inquiry q form room sense ≡ Inquiry.refused form (inquiry q form room sense).answer.number room sense
  pub of_submit : (p : Pending) (command registers block : List ℕ) (declared edition form : ℕ) (sense : List ℕ) → Refused (submit p command registers block declared edition form sense).submitted.taken.number → submit p command registers block declared edition form sense ≡ Submit.refused p form (submit p command registers block declared edition form sense).submitted.taken.number sense
  pub of_complete : (p : Pending) (registers : List ℕ) (form : ℕ) (sense : List ℕ) → Refused (complete p registers form sense).completed.ended.number → complete p registers form sense ≡ Complete.refused p form (complete p registers form sense).completed.ended.number sense
  pub of_write : (block : List ℕ) (ports : Ports) (address room : List ℕ) → Refused (write block ports address room).written.number → write block ports address room ≡ Page83.outcome (record { number = (write block ports address room).written.number; count = 0 }) room
  pub of_read : (page : List ℕ) → Refused (read page).number → read page ≡ Reader.refused
  pub of_roll : (bytes room : List ℕ) → Refused (roll bytes room).counted.number → roll bytes room ≡ Roll.outcome (record { number = (roll bytes room).counted.number; blocks = 0; drives = 0 }) room
  pub of_take : (held : Intake) (store run : List ℕ) → Refused (taken held store run).took.number → taken held store run ≡ Intake.outcome (Intake.answer held 0 (taken held store run).took.number 0) store
  pub of_gather : (haves stores room : List ℕ) → Refused (gather_of haves stores room).gathered.number → gather_of haves stores room ≡ Gathering.gather_outcome (Gathering.given (gather_of haves stores room).gathered.number 0) room
  pub of_inquiry_from_intake : (have : ℕ) (store command signature texts reply : List ℕ) (ports : Ports) (address : List ℕ) (form : ℕ) (room sense : List ℕ) → Refused (inquiry_of have store command signature texts reply ports address form room sense).answer.number → inquiry_of have store command signature texts reply ports address form room sense ≡ Inquiry.refused form (inquiry_of have store command signature texts reply ports address form room sense).answer.number room sense
  pub of_roll_of_intakes : (haves stores room rows : List ℕ) → Refused (roll_of haves stores room rows).counted.number → roll_of haves stores room rows ≡ Received.outcome (record { number = (roll_of haves stores room rows).counted.number; blocks = 0; drives = 0 }) room rows
  pub of_feed : (c : Census) (block : List ℕ) → Refused (feed c block).number → feed c block ≡ Census.answer c (feed c block).number
  pub of_build : (o : Order) → Refused (build o).number → build o ≡ built 23 0 (replicate 16 0)
  pub of_check : (capture : List ℕ) → Refused (check capture).number → check capture ≡ Check.refused (check capture).number (check capture).place

-- A block that passes: it is not damaged.
abbrev pub Passes : List ℕ → Type 0
Passes block = damaged block ≡ false

-- Some block of a run is damaged.
abbrev pub SomeDamaged : List ℕ → Type 0
SomeDamaged bytes = (i : ℕ) × (i < length bytes / 512) × (damaged (block_at bytes i) ≡ true)

-- What is lent to a roll has a size that it takes: whole blocks, 64 of them at most, and an entry of room for each.
pub record RollSized (bytes : List ℕ) (entries : ℕ) : Type 0 where
  pub whole : length bytes % 512 ≡ 0
  pub few : length bytes ≤ 32768
  pub enough : length bytes / 512 ≤ entries

-- Where no size is wrong, a damaged block is refused with 18 and no status whatever else is asked, and nothing lent changes.
pub record DamagedIsRefused : Type 0 where
  pub of_inquiry : (q : Request) (form : ℕ) (room sense : List ℕ) → wrong_size q.block q.signature q.texts q.ports q.address (length sense) ≡ false → damaged q.block ≡ true → inquiry q form room sense ≡ Inquiry.outcome (record { number = 18; status = no_status; shown = 1; count = 0 }) room sense
  pub of_submit : (p : Pending) (command registers block : List ℕ) (declared edition form : ℕ) (sense : List ℕ) → is_later edition ≡ true → PassChecks.wrong_size (length registers) (length sense) ≡ false → damaged block ≡ true → submit p command registers block declared edition form sense ≡ Submit.outcome (Submit.answer p 18 no_status no_order) sense
  pub of_write : (block : List ℕ) (ports : Ports) (address room : List ℕ) → wrong_address ports address ≡ false → damaged block ≡ true → write block ports address room ≡ Page83.outcome (record { number = 18; count = 0 }) room
  pub of_roll : (bytes room : List ℕ) → RollSized bytes (length room) → SomeDamaged bytes → roll bytes room ≡ Roll.outcome (record { number = 18; blocks = 0; drives = 0 }) room
  pub of_gather : (haves stores room : List ℕ) → wrong_run haves (length stores) ≡ false → SomeDamaged (gathered haves stores) → gather_of haves stores room ≡ Gathering.gather_outcome (Gathering.given 18 0) room
  pub of_inquiry_from_intake : (have : ℕ) (store command signature texts reply : List ℕ) (ports : Ports) (address : List ℕ) (form : ℕ) (room sense : List ℕ) → wrong_intake have (length store) ≡ false → wrong_size (block_of have store) signature texts ports address (length sense) ≡ false → damaged (block_of have store) ≡ true → inquiry_of have store command signature texts reply ports address form room sense ≡ Inquiry.outcome (record { number = 18; status = no_status; shown = 1; count = 0 }) room sense
  pub of_roll_of_intakes : (haves stores room rows : List ℕ) → wrong_run haves (length stores) ≡ false → RollSized (gathered haves stores) (length rows) → SomeDamaged (gathered haves stores) → roll_of haves stores room rows ≡ Received.outcome (record { number = 18; blocks = 0; drives = 0 }) room rows
  pub of_feed : (c : Census) (block : List ℕ) → closed c ≡ false → damaged block ≡ true → feed c block ≡ Census.answer c 18
  pub of_check : (capture : List ℕ) → holds capture ≡ true → packet_drive (signature_of (information capture)) ≡ false → damaged (Check.block_of (information capture)) ≡ true → check capture ≡ Check.refused 18 0

-- INQUIRY as it is asked: a request, the form of sense data, room and sense room.
abbrev pub InquiryEntry : Type 0
InquiryEntry = Request → ℕ → List ℕ → List ℕ → Inquiry.Outcome

-- INQUIRY from an intake, asked so: the intake's block stands for the request's own, which is not looked at.
abbrev pub from_intake : ℕ → List ℕ → InquiryEntry
from_intake have store q = inquiry_of have store q.command q.signature q.texts q.reply q.ports q.address

-- A promise of INQUIRY, from the block that is lent and from every intake alike.
pub record OfInquiry (Promise : InquiryEntry → Type 0) : Type 0 where
  pub of_inquiry : Promise inquiry
  pub of_inquiry_from_intake : (have : ℕ) (store : List ℕ) → Promise (from_intake have store)

-- No reply passes the allocation length.
abbrev pub Within : InquiryEntry → Type 0
Within ask = (q : Request) (form : ℕ) (room sense : List ℕ) → (ask q form room sense).answer.count ≤ allocation q.command

-- No reply passes the allocation length.
abbrev pub WithinAllocation : Type 0
WithinAllocation = (q : Request) (form : ℕ) (room sense : List ℕ) → (inquiry q form room sense).answer.count ≤ allocation q.command

abbrev pub AlwaysWithinAllocation : Type 0
AlwaysWithinAllocation = OfInquiry Within

-- The same request with another command.
abbrev pub asked_by : Request → List ℕ → Request
asked_by q command = request command q.block q.signature q.texts q.reply q.ports q.address

-- Ignored bits and bytes of a command change nothing: commands of which the same is read (specs/InquiryRead) have the same outcome, answer,
-- room and sense bytes.
abbrev pub ReadsAlike : InquiryEntry → Type 0
ReadsAlike ask =
    (q : Request) (command other : List ℕ) (form : ℕ) (room sense : List ℕ)
    → read_of_inquiry command ≡ read_of_inquiry other
    → ask (asked_by q command) form room sense ≡ ask (asked_by q other) form room sense

abbrev pub ReadAlike : Type 0
ReadAlike = OfInquiry ReadsAlike

-- The same request with another allocation length.
abbrev pub with_allocation : ℕ → List ℕ → List ℕ
with_allocation n command = set (set command 3 (n / 0x100)) 4 (n % 0x100)

abbrev pub asking : Request → ℕ → Request
asking q n = request (with_allocation n q.command) q.block q.signature q.texts q.reply q.ports q.address

-- What is shown of an answer.
abbrev pub shown : Request → Inquiry.Outcome → List ℕ
shown q o = part q.reply o.room o.answer.shown o.answer.count

-- A host that cuts a reply again sees what it would have asked for: for the lesser of two allocation lengths the first part is shown
-- of what is shown for the greater, of a page and of a packet drive's own reply.
abbrev pub CutsAgain : InquiryEntry → Type 0
CutsAgain ask =
    (q : Request) (a b form other-form : ℕ) (room sense other-room other-sense : List ℕ)
    → a ≤ b
    → b < 0x10000
    → (ask (asking q a) form room sense).answer.number ≡ 0
    → (ask (asking q b) other-form other-room other-sense).answer.number ≡ 0
    → shown (asking q a) (ask (asking q a) form room sense)
    ≡ take a (shown (asking q b) (ask (asking q b) other-form other-room other-sense))

-- A host that cuts a reply again sees what it would have asked for: for the lesser of two allocation lengths the first part is shown
-- of what is shown for the greater, of a page and of a packet drive's own reply.
abbrev pub CutAgain : Type 0
CutAgain = (q : Request) (a b form other-form : ℕ) (room sense other-room other-sense : List ℕ) → a ≤ b → b < 0x10000 → (inquiry (asking q a) form room sense).answer.number ≡ 0 → (inquiry (asking q b) other-form other-room other-sense).answer.number ≡ 0 → shown (asking q a) (inquiry (asking q a) form room sense) ≡ take a (shown (asking q b) (inquiry (asking q b) other-form other-room other-sense))

abbrev pub AlwaysCutAgain : Type 0
AlwaysCutAgain = OfInquiry CutsAgain

-- INQUIRY accepts what the table of refusals lets pass, said in words (specs/Answerable), and nothing else, in every form of sense data.
abbrev pub Accepts : InquiryEntry → (Request → List ℕ → List ℕ → Type 0) → Type 0
Accepts ask Right = (q : Request) (form : ℕ) (room sense : List ℕ) → ((ask q form room sense).answer.number ≡ 0) ↔ Right q room sense

pub record InquiryAccepts : Type 0 where
  pub of_inquiry : Accepts inquiry Answerable
  pub of_inquiry_from_intake : (have : ℕ) (store : List ℕ) → Accepts (from_intake have store) (AnswerableFrom have store)

-- ## Demand 2: worked cases

-- `SoundingsHold` in specs/Soundings: C1 to C13 hold of the rules; `LaterSoundingsHold`: cases of the later edition do.

-- ## Demand 2: orders

-- A command that was submitted: the number, the order and the record that came back.
pub record Submission : Type 0 where
  pub record_given : Pending
  pub command : List ℕ
  pub registers : List ℕ
  pub block : List ℕ
  pub declared : ℕ
  pub edition : ℕ
  pub form : ℕ
  pub sense : List ℕ

abbrev pub outcome_of : Submission → Submit.Outcome
outcome_of s = submit s.record_given s.command s.registers s.block s.declared s.edition s.form s.sense

abbrev pub number_of : Submission → ℕ
number_of s = (outcome_of s).submitted.taken.number

abbrev pub order_from : Submission → Order
order_from s = (outcome_of s).submitted.taken.order

-- The same submission with another command.
abbrev pub sending : List ℕ → Submission → Submission
sending command s =
    record {
      record_given = s.record_given;
      command = command;
      registers = s.registers;
      block = s.block;
      declared = s.declared;
      edition = s.edition;
      form = s.form;
      sense = s.sense;
    }

-- A number is one of those that are listed.
abbrev pub OneOf : ℕ → List ℕ → Type 0
OneOf n [] = ⊥
OneOf n (m ∷ ms) = (n ≡ m) ⊎ OneOf n ms

-- A protocol with data: 4 and 10 move them from the drive, 5 and 11 to it, 6 either way.
abbrev pub MovesData : Submission → Type 0
MovesData s = OneOf (protocol s.command) (4 ∷ 10 ∷ 5 ∷ 11 ∷ 6 ∷ [])

-- T_LENGTH points at the features or the count, and BYTE_BLOCK says that they count blocks.
abbrev pub CountsBlocks : Submission → Type 0
CountsBlocks s = OneOf (t_length s.command) (1 ∷ 2 ∷ []) × (byte_block s.command ≡ true)

-- What the checks before those of the length ask of a submission, each under its number in the table:
pub record Fits (s : Submission) : Type 0 where
  -- 1: 11 registers and 22 bytes of sense room, and in the later edition a block of 512 bytes or none,
  pub registers : length s.registers ≡ 11
  pub sense_room_is : 22 ≤ length s.sense
  pub block_or_none : is_later s.edition ≡ true → OneOf (length s.block) (512 ∷ 0 ∷ [])
  -- 18: which passes;
  pub block_passes : is_later s.edition ≡ true → Passes s.block
  -- 2, 3 and 2: a command of some bytes, with an opcode that its edition serves, and of all bytes of its form;
  pub some_byte : 0 < length s.command
  pub opcode : OneOf (get_or s.command 0 0) (0xA1 ∷ 0x85 ∷ []) ⊎ ((get_or s.command 0 0 ≡ 0x7F) × (is_later s.edition ≡ true))
  pub all_bytes : size s.command ≤ length s.command
  -- 4: NACA zero;
  pub no_naca : Fields.naca s.command ≡ false
  -- 20: the 32-byte form's own bytes 7 to 9;
  pub service_action_is : get_or s.command 0 0 ≡ 0x7F
      → (get_or s.command 7 0 ≡ 0x18) × (get_or s.command 8 0 ≡ 0x1F) × (get_or s.command 9 0 ≡ 0xF0)
  -- 9: a protocol that is served;
  pub protocol_served : OneOf (protocol s.command) (2 ∷ 7 ∷ 12 ∷ 13 ∷ 14 ∷ []) → ⊥
  -- 10: no reset pending for a reset, and nothing at all for any other order; protocol 15 waits for nothing;
  pub reset_free : OneOf (protocol s.command) (0 ∷ 1 ∷ []) → reset_pending s.record_given ≡ false
  pub record_free : (OneOf (protocol s.command) (0 ∷ 1 ∷ 15 ∷ []) → ⊥) → nothing_pending s.record_given ≡ true
  -- 11: T_LENGTH zero without data, and not zero with data;
  pub without_data_is : OneOf (protocol s.command) (3 ∷ 8 ∷ 9 ∷ []) → t_length s.command ≡ 0
  pub with_data_is : MovesData s → t_length s.command ≡ 0 → ⊥
  -- 12: T_DIR one from the drive, zero to the drive;
  pub from_drive_is : OneOf (protocol s.command) (4 ∷ 10 ∷ []) → t_dir s.command ≡ true
  pub to_drive_is : OneOf (protocol s.command) (5 ∷ 11 ∷ []) → t_dir s.command ≡ false
  -- 6: in the later edition a block, where blocks are counted and T_TYPE is one.
  pub block_told : is_later s.edition ≡ true → MovesData s → CountsBlocks s → t_type s.command ≡ true → length s.block ≡ 0 → ⊥

-- The length that data are counted by (specs/Counted): the number of the field that T_LENGTH 1 or 2 points at, times the size of what it
-- counts; and the length that is asked for, which with T_LENGTH 3 is the declared one.
abbrev pub counted_length : Submission → ℕ
counted_length s = counter s.command * unit (is_later s.edition) s.block s.command

abbrev pub asked_length : Submission → ℕ
asked_length s = cond (eqb (t_length s.command) 3) s.declared (counted_length s)

-- And then, with data: 13, a length that is not 0, and 14, no more than was declared.
pub record Submittable (s : Submission) : Type 0 where
  pub fits : Fits s
  pub some_length : MovesData s → asked_length s ≡ 0 → ⊥
  pub within_declared : MovesData s → asked_length s ≤ s.declared

-- Those submissions are accepted, and no others.
abbrev pub SubmitAccepts : Type 0
SubmitAccepts = (s : Submission) → (number_of s ≡ 0) ↔ Submittable s

-- The length rule, over the width of a field and the size of a block, of all three forms: where T_LENGTH points at a field,
pub record LengthByCount (s : Submission) : Type 0 where
  -- whose number has 8 bits, or 16 with EXTEND,
  pub in_its_width : Bytes s.command → counter s.command < 2 ^ width s.command
  -- the order's length is the exact product;
  pub exact : number_of s ≡ 0 → (order_from s).length ≡ counted_length s
  -- and of a submission that fits otherwise, 13 is given exactly for a product of 0, 14 for one above what was declared, and 0 for others.
  pub thirteen : (number_of s ≡ 13) ↔ (Fits s × (counted_length s ≡ 0))
  pub fourteen : (number_of s ≡ 14) ↔ (Fits s × (s.declared < counted_length s))
  pub accepted : (number_of s ≡ 0) ↔ (Fits s × (0 < counted_length s) × (counted_length s ≤ s.declared))

pub record LengthOfData : Type 0 where
  pub by_count : (s : Submission) → MovesData s → OneOf (t_length s.command) (1 ∷ 2 ∷ []) → LengthByCount s
  -- T_LENGTH 3 takes the declared length, and without data there is none.
  pub as_declared : (s : Submission) → number_of s ≡ 0 → MovesData s → t_length s.command ≡ 3 → (order_from s).length ≡ s.declared
  pub none : (s : Submission) → number_of s ≡ 0 → (MovesData s → ⊥) → (order_from s).length ≡ 0

-- Ignored bits and bytes change nothing, in every form and either edition.
pub record OnlyWhatIsReadCounts : Type 0 where
  -- Two commands of which the same is read (specs/Read) have the same outcome, whole.
  pub read_alike : (s : Submission) (other : List ℕ) → read_of (is_later s.edition) other ≡ read_of (is_later s.edition) s.command
      → outcome_of (sending other s) ≡ outcome_of s
  -- So have two that are equal in the bytes that are read: whatever bytes without a name there are, and bytes behind the command's own.
  pub bytes_alike : (s : Submission) (other : List ℕ) → size s.command ≤ length s.command → size s.command ≤ length other
      → ((place : ℕ) → OneOf place (places_read s.command) → get_or other place 0 ≡ get_or s.command place 0)
      → outcome_of (sending other s) ≡ outcome_of s

-- The direction is never guessed: it hangs on PROTOCOL and T_DIR alone, whatever the record, the ATA command and all else are.
abbrev pub DirectionFromTheFields : Type 0
DirectionFromTheFields = (s t : Submission) → number_of s ≡ 0 → number_of t ≡ 0 → protocol s.command ≡ protocol t.command → t_dir s.command ≡ t_dir t.command → (order_from s).direction ≡ (order_from t).direction

-- The place of the ATA command: byte 25 of the longest form, 14 of the long, 9 of the short.
abbrev pub ata_command_at : List ℕ → ℕ
ata_command_at c = cond (longest c) 25 (cond (long c) 14 9)

-- An order with another ATA command, and all else as it was.
abbrev pub with_command : ℕ → Order → Order
with_command v o =
    record {
      length = o.length;
      auxiliary = o.auxiliary;
      features = o.features;
      count = o.count;
      lba_low = o.lba_low;
      lba_mid = o.lba_mid;
      lba_high = o.lba_high;
      quiet_seconds = o.quiet_seconds;
      sectors_per_block = o.sectors_per_block;
      device = o.device;
      command = v;
      protocol = o.protocol;
      ck_cond = o.ck_cond;
      extend = o.extend;
      direction = o.direction;
    }

-- The same submission with another ATA command.
abbrev pub with_ata_command : ℕ → Submission → Submission
with_ata_command v s = sending (set s.command (ata_command_at s.command) v) s

-- An outcome with another ATA command in its order, and in the order that its record holds; all else as it was, number, status and sense
-- room too.
abbrev pub differs_in_command : ℕ → Submit.Outcome → Submit.Outcome
differs_in_command v o =
    let next = o.submitted.next in
    let taken = o.submitted.taken in
    let held : Pending = record { state = next.state; order = with_command v next.order; older = next.older } in
    Submit.outcome (Submit.answer held taken.number taken.status (with_command v taken.order)) o.sense

-- Two whole commands that differ in the ATA command alone make orders that differ in the field `command` alone; resets, whose
-- orders hold no ATA command, make the same order.
abbrev pub OnlyTheCommandDiffers : Type 0
OnlyTheCommandDiffers = (c block : List ℕ) (declared edition v : ℕ) → size c ≤ length c → made (set c (ata_command_at c) v) block declared edition ≡ cond (reset (protocol c)) (made c block declared edition) (with_command v (made c block declared edition))

-- Two submissions differ in the ATA command alone. Where an order is taken that is no reset, so do the outcomes; where none is, and of
-- resets, whose orders hold no ATA command, the outcomes are the same.
pub record OutcomesDifferInTheCommand : Type 0 where
  pub of_an_order : (s : Submission) (v : ℕ) → number_of s ≡ 0 → (protocol s.command ≡ 15 → ⊥) → reset (protocol s.command) ≡ false
      → outcome_of (with_ata_command v s) ≡ differs_in_command v (outcome_of s)
  pub of_any_other : (s : Submission) (v : ℕ) → Refused (number_of s) ⊎ (protocol s.command ≡ 15) ⊎ (reset (protocol s.command) ≡ true)
      → outcome_of (with_ata_command v s) ≡ outcome_of s

-- In the first edition, which every number but the later's names, and whatever block is lent, a command is read and answered as it was
-- before there was a later one (specs/FirstEdition), to the byte and for every input.
abbrev pub FirstEditionStays : Type 0
FirstEditionStays = (p : Pending) (command registers block : List ℕ) (declared edition form : ℕ) (sense : List ℕ) → is_later edition ≡ false → submit p command registers block declared edition form sense ≡ FirstEdition.submit p command registers declared form sense

-- CK_COND and EXTEND of an order are the command's own.
abbrev pub OwnFlags : Type 0
OwnFlags = (c block : List ℕ) (declared edition : ℕ) → reset (protocol c) ≡ false → (is_set (made c block declared edition).ck_cond ≡ ck_cond c) × (is_set (made c block declared edition).extend ≡ extend c)

-- CK_COND and EXTEND of an order that is taken are the command's own; of a reset both are zero.
abbrev pub OwnFlagsWhenTaken : Type 0
OwnFlagsWhenTaken = (s : Submission) → number_of s ≡ 0 → (protocol s.command ≡ 15 → ⊥)
    → ((order_from s).ck_cond ≡ flag (not (reset (protocol s.command)) && ck_cond s.command))
    × ((order_from s).extend ≡ flag (not (reset (protocol s.command)) && extend s.command))

-- Completing what an outcome leaves tells the status and the sense data that the order which it answered says, leaves the empty
-- record, and reports as lost what was pending before: nothing, or an order by its protocol.
abbrev pub EndsBy : Pending → List ℕ → ℕ → List ℕ → Submit.Outcome → Type 0
EndsBy before left form room o =
    complete o.submitted.next left form room
    ≡ Complete.outcome
    (Complete.answer empty 0 (end_status o.submitted.taken.order left) (flag (not (nothing_pending before))) (cond (nothing_pending before) 0 before.order.protocol))
    (end_sense o.submitted.taken.order left form room)

-- No order is faked: one that was taken is the order that its command makes, and is completed with its own fields, from every state
-- of the record.
abbrev pub CompletedWithItsOwnFields : Type 0
CompletedWithItsOwnFields = (s : Submission) → number_of s ≡ 0 → (protocol s.command ≡ 15 → ⊥) → (left : List ℕ) (form : ℕ) (room : List ℕ) → length left ≡ 11 → 22 ≤ length room → (order_from s ≡ made s.command s.block s.declared s.edition) × EndsBy s.record_given left form room (outcome_of s)

-- The same submission with nothing pending.
abbrev pub with_nothing_pending : Submission → Submission
with_nothing_pending s = record { record_given = empty; command = s.command; registers = s.registers; block = s.block; declared = s.declared; edition = s.edition; form = s.form; sense = s.sense }

-- The numbers of the checks that stand before 10.
abbrev pub before_busy : ℕ → Bool
before_busy number = eqb number 1 || eqb number 18 || eqb number 2 || eqb number 3 || eqb number 4 || eqb number 20 || eqb number 9

-- A submission is answered BUSY: number 10, status 08h, a zero order, and the record and the sense room as they were given.
abbrev pub AnsweredBusy : Submission → Type 0
AnsweredBusy s = outcome_of s ≡ Submit.outcome (Submit.answer s.record_given 10 busy no_order) s.sense

-- A submission has to wait. It is never taken: a check before 10 that refuses it with nothing pending refuses it with the same number,
-- and where no such check applies it is answered BUSY, whatever a check behind 10 would say.
pub record HasToWait (s : Submission) : Type 0 where
  pub not_taken : Refused (number_of s)
  pub checked_before : before_busy (number_of (with_nothing_pending s)) ≡ true → number_of s ≡ number_of (with_nothing_pending s)
  pub else_busy : before_busy (number_of (with_nothing_pending s)) ≡ false → AnsweredBusy s

pub record TakenWhilePending : Type 0 where
  -- While anything is pending only a reset is taken,
  pub no_other : (s : Submission) → nothing_pending s.record_given ≡ false → (protocol s.command ≡ 15 → ⊥) → reset (protocol s.command) ≡ false → Refused (number_of s)
  -- and none while a reset is;
  pub no_second_reset : (s : Submission) → reset_pending s.record_given ≡ true → reset (protocol s.command) ≡ true → Refused (number_of s)
  -- but over an order that is no reset it is refused as with nothing pending, and never with 10.
  pub reset_gets_past : (s : Submission) → reset_pending s.record_given ≡ false → reset (protocol s.command) ≡ true → (number_of s ≡ number_of (with_nothing_pending s)) × (number_of s ≡ 10 → ⊥)

pub record AnsweredWhilePending : Type 0 where
  -- While anything is pending every order but a reset has to wait;
  pub no_other : (s : Submission) → nothing_pending s.record_given ≡ false → (protocol s.command ≡ 15 → ⊥)
      → reset (protocol s.command) ≡ false → HasToWait s
  -- while a reset is pending so does a reset: one that would be taken with nothing pending is BUSY, and any other is refused as then;
  pub no_second_reset : (s : Submission) → reset_pending s.record_given ≡ true → reset (protocol s.command) ≡ true → HasToWait s
  pub second_reset_busy : (s : Submission) → reset_pending s.record_given ≡ true → reset (protocol s.command) ≡ true
      → number_of (with_nothing_pending s) ≡ 0 → AnsweredBusy s
  pub second_reset_else : (s : Submission) → reset_pending s.record_given ≡ true → reset (protocol s.command) ≡ true
      → Refused (number_of (with_nothing_pending s)) → number_of s ≡ number_of (with_nothing_pending s)
  -- but over an order that is no reset it is refused as with nothing pending, and never with 10.
  pub reset_gets_past : (s : Submission) → reset_pending s.record_given ≡ false → reset (protocol s.command) ≡ true → (number_of s ≡ number_of (with_nothing_pending s)) × (number_of s ≡ 10 → ⊥)

-- A report, which protocol 15 asks for, waits for nothing:
pub record Reports (s : Submission) : Type 0 where
  -- the record is left as it was given, accepted or refused;
  pub record_kept : (outcome_of s).submitted.next ≡ s.record_given
  -- number, status, order and sense room are those with nothing pending, so that it is accepted where it would be then;
  pub same_answer : (outcome_of s).submitted.taken ≡ (outcome_of (with_nothing_pending s)).submitted.taken
  pub same_sense : (outcome_of s).sense ≡ (outcome_of (with_nothing_pending s)).sense
  -- and where it is accepted it tells the lent registers, with CHECK CONDITION.
  pub tells_registers : number_of s ≡ 0 → outcome_of s ≡ Submit.reported s.record_given s.registers s.form s.sense

-- Protocol 15 leaves the record as it was given, in every state, accepted or refused.
abbrev pub Protocol15KeepsTheRecord : Type 0
Protocol15KeepsTheRecord = (s : Submission) → protocol s.command ≡ 15 → (outcome_of s).submitted.next ≡ s.record_given

-- So it is in every state of the record.
abbrev pub Protocol15OnlyReports : Type 0
Protocol15OnlyReports = (s : Submission) → protocol s.command ≡ 15 → Reports s

-- The book of steps on a record that is empty at first (specs/History of `passthrough`).
abbrev pub book : List Step → History.Book
book steps = History.book_of History.begin steps

-- Of every list of steps, submits and completions in any order:
pub record Accounted (steps : List Step) : Type 0 where
  -- the record holds the orders that were taken since the last completion,
  pub holds : History.waiting (book steps).pending ≡ (book steps).outstanding
  -- of which there are two at most, and then the second is a reset over the first, which is none;
  pub few : Stacked (book steps).outstanding
  -- the next completion goes by them: the last one ends, with its own fields, and the one before it is lost;
  pub next_completion : (left : List ℕ) (form : ℕ) (room : List ℕ) → length left ≡ 11 → 22 ≤ length room → complete (book steps).pending left form room ≡ completion_of (book steps).pending (book steps).outstanding left form room
  -- and every order that was taken has ended or is reported lost, once, or still waits: the orders taken, in their order, are those that
  -- the completions settled and behind them those that wait.
  pub each_once : (book steps).taken ≡ (book steps).settled ++ (book steps).outstanding

abbrev pub EveryOrderAccounted : Type 0
EveryOrderAccounted = (steps : List Step) → Accounted steps

-- ## Demand 2: the forms of sense data

-- What one call leaves in its sense room, in the fixed form and in another: with CHECK CONDITION both carry the same, and with every
-- other status both are the room as it was lent.
pub record ToldAlike (status : ℕ) (lent left other-left : List ℕ) : Type 0 where
  pub told : status ≡ check_condition → in_fixed (sensed left) ≡ in_descriptor (sensed other-left)
  pub untold : (status ≡ check_condition → ⊥) → (left ≡ lent) × (other-left ≡ lent)

-- For all keys, codes and registers both forms carry the same; and so does what each entry leaves for one and the same call.
pub record FormsAgree : Type 0 where
  pub of_sense_data : (key asc ascq : ℕ) (told : Told) → in_fixed (fixed_sense key asc ascq told) ≡ in_descriptor (descriptor_sense key asc ascq told)
  pub of_inquiry : (q : Request) (form other : ℕ) (room sense : List ℕ) → is_fixed form ≡ true → is_fixed other ≡ false → ToldAlike (inquiry q form room sense).answer.status sense (inquiry q form room sense).sense (inquiry q other room sense).sense
  pub of_submit : (p : Pending) (command registers block : List ℕ) (declared edition form other : ℕ) (sense : List ℕ) → is_fixed form ≡ true → is_fixed other ≡ false → ToldAlike (submit p command registers block declared edition form sense).submitted.taken.status sense (submit p command registers block declared edition form sense).sense (submit p command registers block declared edition other sense).sense
  pub of_complete : (p : Pending) (registers : List ℕ) (form other : ℕ) (sense : List ℕ) → is_fixed form ≡ true → is_fixed other ≡ false → ToldAlike (complete p registers form sense).completed.ended.status sense (complete p registers form sense).sense (complete p registers other sense).sense
  pub of_inquiry_from_intake : (have : ℕ) (store command signature texts reply : List ℕ) (ports : Ports) (address : List ℕ) (form other : ℕ) (room sense : List ℕ) → is_fixed form ≡ true → is_fixed other ≡ false → ToldAlike (inquiry_of have store command signature texts reply ports address form room sense).answer.status sense (inquiry_of have store command signature texts reply ports address form room sense).sense (inquiry_of have store command signature texts reply ports address other room sense).sense

-- And nothing else of a call hangs on the form: number, status, what is shown, order, record and room are the same in any two.
pub record FormChangesOnlySense : Type 0 where
  pub of_inquiry : (q : Request) (form other : ℕ) (room sense : List ℕ) → ((inquiry q form room sense).answer ≡ (inquiry q other room sense).answer) × ((inquiry q form room sense).room ≡ (inquiry q other room sense).room)
  pub of_submit : (p : Pending) (command registers block : List ℕ) (declared edition form other : ℕ) (sense : List ℕ) → (submit p command registers block declared edition form sense).submitted ≡ (submit p command registers block declared edition other sense).submitted
  pub of_complete : (p : Pending) (registers : List ℕ) (form other : ℕ) (sense : List ℕ) → (complete p registers form sense).completed ≡ (complete p registers other sense).completed
  pub of_inquiry_from_intake : (have : ℕ) (store command signature texts reply : List ℕ) (ports : Ports) (address : List ℕ) (form other : ℕ) (room sense : List ℕ) → ((inquiry_of have store command signature texts reply ports address form room sense).answer ≡ (inquiry_of have store command signature texts reply ports address other room sense).answer) × ((inquiry_of have store command signature texts reply ports address form room sense).room ≡ (inquiry_of have store command signature texts reply ports address other room sense).room)

-- Where no form is stated the outcome is that of the fixed form, of every entry; and a form that is stated is the one that is written.
pub record UsualForm : Type 0 where
  pub of_fixed : (key asc ascq : ℕ) (told : Told) → sense_data fixed key asc ascq told ≡ fixed_sense key asc ascq told
  pub of_descriptor : (key asc ascq : ℕ) (told : Told) → sense_data descriptor key asc ascq told ≡ descriptor_sense key asc ascq told
  pub of_inquiry : (q : Request) (room sense : List ℕ) → inquiry q unstated room sense ≡ inquiry q fixed room sense
  pub of_submit : (p : Pending) (command registers block : List ℕ) (declared edition : ℕ) (sense : List ℕ) → submit p command registers block declared edition unstated sense ≡ submit p command registers block declared edition fixed sense
  pub of_complete : (p : Pending) (registers sense : List ℕ) → complete p registers unstated sense ≡ complete p registers fixed sense
  pub of_inquiry_from_intake : (have : ℕ) (store command signature texts reply : List ℕ) (ports : Ports) (address room sense : List ℕ) → inquiry_of have store command signature texts reply ports address unstated room sense ≡ inquiry_of have store command signature texts reply ports address fixed room sense

-- ## Demand 2: the reader of page 83h

-- The page that the writer left at the room's start.
abbrev pub left : Page83.Outcome → List ℕ
left o = take o.written.count o.room

-- What a choice of ports tells: bits and numbers that are not looked at are zero, as are the address's bytes where none is chosen.
abbrev pub told_ports : Ports → Ports
told_ports ports =
    record {
      chosen = flag (relative_chosen ports) + 2 * flag (sas_chosen ports);
      relative = cond (relative_chosen ports) ports.relative 0;
    }

abbrev pub told_address : Ports → List ℕ → List ℕ
told_address ports address = cond (sas_chosen ports) address (replicate 8 0x00)

-- The name of a block as the reader gives it: the world wide name, or model and serial number with their zero bytes as spaces; and
-- the ports behind it.
abbrev pub name_of : List ℕ → Ports → List ℕ → Name
name_of block ports address =
    record {
      number = 0;
      form = cond (carries_name block) 1 2;
      name = in_sixty (cond (carries_name block) (turned (name block)) (spaced (turned (model block)) ++ spaced (turned (serial block))));
      ports = told_ports ports;
      address = told_address ports address;
    }

-- What the writer made, the reader accepts, and it gives back the name and the ports that went in.
abbrev pub ReadsBack : Type 0
ReadsBack = (block : List ℕ) (ports : Ports) (address room : List ℕ) → (write block ports address room).written.number ≡ 0 → read (left (write block ports address room)) ≡ name_of block ports address

-- And it accepts nothing else: an accepted page is what the writer leaves for some block and the ports and the address that the reader
-- gives, in every room that holds it; and where the page is of bytes, so is the block.
abbrev pub AcceptedIsWritten : Type 0
AcceptedIsWritten = (page : List ℕ) → (read page).number ≡ 0 → (block : List ℕ) × (Bytes page → Bytes block) × ((room : List ℕ) → length page ≤ length room → ((write block (read page).ports (read page).address room).written.number ≡ 0) × (left (write block (read page).ports (read page).address room) ≡ page))

-- ## Demand 3

-- What it is to be the same drive, over the IDENTIFY words: of two blocks of 512 bytes, word 87 says in both that there is a name, and
-- words 108 to 111 are not all zero and are equal; or in neither is there such a name, and model and serial number are equal with
-- zero bytes as spaces.
abbrev pub SameDriveByWords : Type 0
SameDriveByWords = (a b : List ℕ) → Bytes a → Bytes b → length a ≡ 512 → length b ≡ 512 → (same_drive a b ≡ true) ↔ (NameInWords a b ⊎ TextsInWords a b)

-- The row of block i in the room that a roll leaves.
abbrev pub row_at : List ℕ → List ℕ → ℕ → ℕ
row_at bytes room i = get_or (roll bytes room).room i 0

-- Blocks that a roll takes: their sizes are right, and every one passes.
pub record Rollable (bytes room : List ℕ) : Type 0 where
  pub sized : RollSized bytes (length room)
  pub pass : (i : ℕ) → i < length bytes / 512 → Passes (block_at bytes i)

-- Those it accepts, and no others.
abbrev pub RollAccepts : Type 0
RollAccepts = (bytes room : List ℕ) → ((roll bytes room).counted.number ≡ 0) ↔ Rollable bytes room

-- Of their roll:
pub record Rolled (bytes room : List ℕ) : Type 0 where
  -- every block of 512 bytes is counted;
  pub blocks : (roll bytes room).counted.blocks ≡ length bytes / 512
  -- two blocks have one row if and only if they are the same drive;
  pub share_a_row : (i j : ℕ) → i < length bytes / 512 → j < length bytes / 512 → (row_at bytes room i ≡ row_at bytes room j) ↔ (same_drive (block_at bytes i) (block_at bytes j) ≡ true)
  -- a drive's first block has the row behind those of the drives before it, so that the first of all has row 1;
  pub by_first_appearance : (i : ℕ) → i < length bytes / 512 → ((k : ℕ) → k < i → same_drive (block_at bytes k) (block_at bytes i) ≡ false) → row_at bytes room i ≡ suc (roll (take (512 * i) bytes) room).counted.drives
  -- the rows are the numbers from 1 to the drive count, each of them some block's: so the count is that of the different drives;
  pub within_the_count : (i : ℕ) → i < length bytes / 512 → (1 ≤ row_at bytes room i) × (row_at bytes room i ≤ (roll bytes room).counted.drives)
  pub each_row_is_a_block's : (r : ℕ) → 1 ≤ r → r ≤ (roll bytes room).counted.drives → (i : ℕ) × (i < length bytes / 512) × (row_at bytes room i ≡ r)
  -- entries past the block count are as they were.
  pub later_entries : (k : ℕ) → length bytes / 512 ≤ k → row_at bytes room k ≡ get_or room k 0
  pub as_many_entries : length (roll bytes room).room ≡ length room

abbrev pub RollOfDrives : Type 0
RollOfDrives = (bytes room : List ℕ) → Rollable bytes room → Rolled bytes room

-- What the writer takes: a block of 512 bytes that passes, a chosen address of 8 bytes, a chosen port 1 or 2, and room for the page.
pub record Writable (block : List ℕ) (ports : Ports) (address room : List ℕ) : Type 0 where
  pub whole : length block ≡ 512
  pub passes : Passes block
  pub right_address : wrong_address ports address ≡ false
  pub right_port : wrong_port ports ≡ false
  pub enough : length (page83 block ports address) ≤ length room

-- It accepts those, and no others.
abbrev pub WriterAccepts : Type 0
WriterAccepts = (block : List ℕ) (ports : Ports) (address room : List ℕ) → ((write block ports address room).written.number ≡ 0) ↔ Writable block ports address room

-- A page's first descriptor, of the length that its byte 3 tells.
abbrev pub first_descriptor : List ℕ → List ℕ
first_descriptor page = take (4 + get_or page 7 0) (drop 4 page)

-- Two choices tell the same ports: the same of the two are chosen, with equal number and equal address where they are.
pub record SamePorts (ports : Ports) (address : List ℕ) (other : Ports) (other-address : List ℕ) : Type 0 where
  pub both_relative : relative_chosen ports ≡ relative_chosen other
  pub both_sas : sas_chosen ports ≡ sas_chosen other
  pub same_number : relative_chosen ports ≡ true → ports.relative ≡ other.relative
  pub same_address : sas_chosen ports ≡ true → address ≡ other-address

-- Of two pages the first descriptors are equal exactly when they are of the same drive, whatever the ports are; and the pages exactly
-- when they are of the same drive and tell the same ports:
pub record TellsApart (page other-page block other : List ℕ) (PortsAlike : Type 0) : Type 0 where
  pub by_first_descriptor : (first_descriptor page ≡ first_descriptor other-page) ↔ (same_drive block other ≡ true)
  pub by_page : (page ≡ other-page) ↔ ((same_drive block other ≡ true) × PortsAlike)

-- as the writer leaves them, of blocks that pass,
abbrev pub PagesOfTheWriter : Type 0
PagesOfTheWriter = (a : List ℕ) (p : Ports) (x : List ℕ) (b : List ℕ) (q : Ports) (y room other : List ℕ) → Writable a p x room → Writable b q y other → TellsApart (left (write a p x room)) (left (write b q y other)) a b (SamePorts p x q y)

-- A drive that is no packet drive, and whose block passes, is asked for its complete page 83h.
pub record AsksItsName (q : Request) (room sense : List ℕ) : Type 0 where
  pub writable : Writable q.block q.ports q.address room
  pub signature : length q.signature ≡ 20
  pub texts : length q.texts ≡ 28
  pub sense_room_is : 22 ≤ length sense
  pub whole_command : 6 ≤ length q.command
  pub opcode : get_or q.command 0 0 ≡ 0x12
  pub no_naca : naca q.command ≡ false
  pub no_cmddt : cmddt q.command ≡ false
  pub disk : is_packet q ≡ false
  pub page_asked : evpd q.command ≡ true
  pub page_83h : page_code q.command ≡ 0x83
  pub complete : length (page83 q.block q.ports q.address) ≤ allocation q.command

-- and as INQUIRY, which then accepts, shows them.
abbrev pub PagesOfInquiry : Type 0
PagesOfInquiry = (q r : Request) (form other-form : ℕ) (room sense other-room other-sense : List ℕ) → AsksItsName q room sense → AsksItsName r other-room other-sense → ((inquiry q form room sense).answer.number ≡ 0) × ((inquiry r other-form other-room other-sense).answer.number ≡ 0) × TellsApart (shown q (inquiry q form room sense)) (shown r (inquiry r other-form other-room other-sense)) q.block r.block (SamePorts q.ports q.address r.ports r.address)

-- ## The intake: a stream in runs

-- The answer to the next run, after the runs before it.
abbrev pub answer_to : List ℕ → List (List ℕ) → List ℕ → Took
answer_to store before run = (taken (runs (begin store) before).intake (runs (begin store) before).store run).took

-- Of an empty intake over a store of 512 bytes, and a stream in runs, runs of no bytes among them:
pub record Streamed (store : List ℕ) : Type 0 where
  -- however the stream is divided, the intake, the store and the bytes used in all are those of a single run,
  pub however_divided : (rs : List (List ℕ)) → runs (begin store) rs ≡ step (begin store) (stream rs)
  -- which are the front of the stream, up to its byte 512, and the front's sum modulo 256;
  pub single_run : (s : List ℕ) → step (begin store) s ≡ record { intake = Intake.intake (length (take 512 s)) (sum_of (take 512 s) % 256); store = written store 0 (take 512 s); used = length (take 512 s) }
  -- no run is refused, and complete is reported from exactly the run that brings byte 512;
  pub never_refused : (before : List (List ℕ)) (run : List ℕ) → (answer_to store before run).number ≡ 0
  pub complete_from_byte_512 : (before : List (List ℕ)) (run : List ℕ) → (answer_to store before run).complete ≡ flag (leb 512 (length (stream before ++ run)))
  -- of each run the bytes are used that the block still lacked.
  pub used_of_a_run : (before : List (List ℕ)) (run : List ℕ) → (answer_to store before run).used ≡ length (take 512 (stream before ++ run)) - length (take 512 (stream before))

abbrev pub StreamOfRuns : Type 0
StreamOfRuns = (store : List ℕ) → length store ≡ 512 → Streamed store

-- INQUIRY from an intake is INQUIRY from the block that its stream brings: the first 512 bytes, or none before they are there.
abbrev pub InquiryFromAStream : Type 0
InquiryFromAStream = (store : List ℕ) → length store ≡ 512 → (rs : List (List ℕ)) (command signature texts reply : List ℕ) (ports : Ports) (address : List ℕ) (form : ℕ) (room sense : List ℕ) → inquiry_of (runs (begin store) rs).intake.have (runs (begin store) rs).store command signature texts reply ports address form room sense ≡ inquiry (request command (block_in (stream rs)) signature texts reply ports address) form room sense

-- And so is the roll of several bays, each with a stream of its own, in room that holds their blocks; refusals too.
abbrev pub RollOfStreams : Type 0
RollOfStreams = (bays : List Bay) → Stores bays → (room rows : List ℕ) → length (blocks_of bays) ≤ length room → ((roll_of (haves_of bays) (stores_of bays) room rows).counted ≡ (roll (blocks_of bays) rows).counted) × ((roll_of (haves_of bays) (stores_of bays) room rows).rows ≡ (roll (blocks_of bays) rows).room)

-- The sum that an intake carries along decides of its block what the block's own sum decides of it; before there is a block, of none.
abbrev pub CarriedSum : Type 0
CarriedSum = (store : List ℕ) → length store ≡ 512 → (rs : List (List ℕ)) → damaged_by (runs (begin store) rs).intake.sum (block_of (runs (begin store) rs).intake.have (runs (begin store) rs).store) ≡ damaged (block_in (stream rs))

-- ## The census

-- The census of blocks: what an empty one comes to, fed them one at a time.
abbrev pub census_of : List (List ℕ) → Census
census_of blocks = feed_all Census.empty blocks

pub record Counted (blocks : List (List ℕ)) : Type 0 where
  -- every one is counted;
  pub in_all : (census_of blocks).blocks ≡ length blocks
  -- each class count is the number of blocks with that property: that they carry a name, or none;
  pub named : (census_of blocks).named ≡ count_of carries_name blocks
  pub unnamed : (census_of blocks).unnamed ≡ count_of (λ block. not (carries_name block)) blocks
  -- their highest Ultra DMA mode, or that they have none;
  pub modes : (mode : ℕ) → mode ≤ no_mode → get_or (census_of blocks).udma mode 0 ≡ count_of (λ block. eqb (ultra_dma block) mode) blocks
  -- their highest major version, or that they have none;
  pub versions : (version : ℕ) → 1 ≤ version → version ≤ no_version → get_or (census_of blocks).version (version - 1) 0 ≡ count_of (λ block. eqb (major_version block) version) blocks
  -- and each grouping sums to the blocks fed.
  pub names_sum : (census_of blocks).named + (census_of blocks).unnamed ≡ length blocks
  pub modes_sum : sum_of (census_of blocks).udma ≡ length blocks
  pub versions_sum : sum_of (census_of blocks).version ≡ length blocks

-- So it is of up to 65,535 blocks of 512 bytes that pass.
abbrev pub CensusOfBlocks : Type 0
CensusOfBlocks = (blocks : List (List ℕ)) → Countable blocks → length blocks ≤ 65535 → Counted blocks

-- A block of another size, or one that is damaged, is counted nowhere, whatever the census is: any blocks have the census of the others
-- among them.
abbrev pub OthersLeftOut : Type 0
OthersLeftOut = (c : Census) (blocks : List (List ℕ)) → feed_all c blocks ≡ feed_all c (countables blocks)

-- ## The builder

-- The bytes of a built command that are sent.
abbrev pub sent : Order → List ℕ
sent o = take (build o).size (build o).command

-- A command that is built makes its order: submitted in the first edition with nothing pending, and with the order's length declared, it
-- is taken, and the order that comes back and is held is the one that it was built from; no sense byte is written.
abbrev pub BuiltReadsBack : Type 0
BuiltReadsBack = (o : Order) (registers block : List ℕ) (edition form : ℕ) (sense : List ℕ) → (build o).number ≡ 0 → is_later edition ≡ false → length registers ≡ 11 → 22 ≤ length sense → submit empty (sent o) registers block o.length edition form sense ≡ Submit.taken empty o sense

-- A command of bytes makes an order in the first edition: it is accepted, and is no report of protocol 15.
pub record Makes (s : Submission) : Type 0 where
  pub bytes : Bytes s.command
  pub first_edition : is_later s.edition ≡ false
  pub accepted : number_of s ≡ 0
  pub no_report : protocol s.command ≡ 15 → ⊥

-- The builder refuses with 23 alone, and only an order that no command makes; every order that some command makes is built.
pub record BuiltExactlyWhen : Type 0 where
  pub built_or_23 : (o : Order) → ((build o).number ≡ 0) ⊎ ((build o).number ≡ 23)
  pub refused_if_none : (o : Order) → (build o).number ≡ 23 → (s : Submission) → Makes s → order_from s ≡ o → ⊥
  pub built_if_some : (s : Submission) → Makes s → (build (order_from s)).number ≡ 0

-- Two commands make the same order exactly when they agree in all that counts, and point at the same byte length.
abbrev pub SameOrderSameFields : Type 0
SameOrderSameFields = (s t : Submission) → Makes s → Makes t → (order_from s ≡ order_from t) ↔ ((counts_of s.command ≡ counts_of t.command) × (points_at s.command s.declared ≡ points_at t.command t.declared))

-- ## Another maker's bridge

-- What the check says of a capture:
pub record Checked (capture : List ℕ) : Type 0 where
  -- it accepts exactly if the layout holds, the drive is no packet drive, the block passes, and every field is the writer's;
  pub accepts : (check capture ≡ Check.accepted) ↔ Acceptable capture
  -- it names a field and a place exactly if the first three hold, that field is the first that is not the writer's, and the place is its
  -- first differing byte, for page 83h the furthest over all choices of ports and every address;
  pub names_the_fault : (tag place : ℕ) → (check capture ≡ Check.differs tag place) ↔ AtFault capture tag place
  -- it refuses with 21 and a place exactly if the layout is broken there, with 22 exactly if else the drive is a packet drive, and with 18
  -- exactly if else the block is damaged;
  pub broken_layout : (place : ℕ) → (check capture ≡ Check.refused 21 place) ↔ BrokenAt capture place
  pub packet_drive_is : (check capture ≡ Check.refused 22 0) ↔ OfAPacketDrive capture
  pub damaged_block_is : (check capture ≡ Check.refused 18 0) ↔ OfADamagedBlock capture
  -- and it says nothing else.
  pub one_of_these : (check capture ≡ Check.accepted) ⊎ ((tag : ℕ) × (place : ℕ) × (check capture ≡ Check.differs tag place)) ⊎ ((place : ℕ) × (check capture ≡ Check.refused 21 place)) ⊎ (check capture ≡ Check.refused 22 0) ⊎ (check capture ≡ Check.refused 18 0)

-- So it is of every capture of bytes.
abbrev pub CheckOfCaptures : Type 0
CheckOfCaptures = (capture : List ℕ) → Bytes capture → Checked capture

-- What INQUIRY shows of a drive for a tag, whole: standard data for 01h, else the page of that code.
pub record Reply (block signature texts : List ℕ) (tag : ℕ) (bytes : List ℕ) : Type 0 where
  pub asked : Request
  pub form : ℕ
  pub room : List ℕ
  pub sense : List ℕ
  pub of_the_drive : (asked.block ≡ block) × (asked.signature ≡ signature) × (asked.texts ≡ texts)
  pub its_tag : cond (evpd asked.command) (page_code asked.command) 0x01 ≡ tag
  pub answered : (inquiry asked form room sense).answer.number ≡ 0
  pub whole : length (page asked) ≤ allocation asked.command
  pub shows : shown asked (inquiry asked form room sense) ≡ bytes

-- Such replies in a capture: page 89h, and before it those of the others that are present.
abbrev pub put : (ℕ → Bool) → (ℕ → List ℕ) → ℕ → List Field
put present replies tag = cond (present tag) (field tag (replies tag) ∷ []) []

abbrev pub own_capture : (ℕ → Bool) → (ℕ → List ℕ) → List ℕ
own_capture present replies =
    captured
    (put present replies 0x00
    ++ put present replies 0x01
    ++ put present replies 0x80
    ++ put present replies 0x83
    ++ (field 0x89 (replies 0x89) ∷ []))

-- The board's own replies are accepted: of every block that passes (for INQUIRY refuses others), each asked with ports of its own.
abbrev pub OwnRepliesAccepted : Type 0
OwnRepliesAccepted = (block signature texts : List ℕ) (present : ℕ → Bool) (replies : ℕ → List ℕ) → length block ≡ 512 → packet_drive signature ≡ false → ((tag : ℕ) → (present tag ≡ true) ⊎ (tag ≡ 0x89) → Reply block signature texts tag (replies tag)) → check (own_capture present replies) ≡ Check.accepted

-- ## All of them

pub record Promises : Type 0 where
  pub one_outcome : OneOutcome
  pub refusals_change_nothing : RefusalsChangeNothing
  pub damaged_is_refused : DamagedIsRefused
  pub within_allocation : WithinAllocation
  pub always_within_allocation : AlwaysWithinAllocation
  pub read_alike : ReadAlike
  pub cut_again : CutAgain
  pub always_cut_again : AlwaysCutAgain
  pub inquiry_accepts : InquiryAccepts
  pub soundings_hold : SoundingsHold
  pub later_soundings_hold : LaterSoundingsHold
  pub submit_accepts : SubmitAccepts
  pub length_of_data : LengthOfData
  pub only_what_is_read_counts : OnlyWhatIsReadCounts
  pub direction_from_the_fields : DirectionFromTheFields
  pub only_the_command_differs : OnlyTheCommandDiffers
  pub outcomes_differ_in_the_command : OutcomesDifferInTheCommand
  pub first_edition_stays : FirstEditionStays
  pub own_flags : OwnFlags
  pub own_flags_when_taken : OwnFlagsWhenTaken
  pub completed_with_its_own_fields : CompletedWithItsOwnFields
  pub taken_while_pending : TakenWhilePending
  pub answered_while_pending : AnsweredWhilePending
  pub protocol_15_keeps_the_record : Protocol15KeepsTheRecord
  pub protocol_15_only_reports : Protocol15OnlyReports
  pub every_order_accounted : EveryOrderAccounted
  pub forms_agree : FormsAgree
  pub form_changes_only_sense : FormChangesOnlySense
  pub usual_form : UsualForm
  pub reads_back : ReadsBack
  pub accepted_is_written : AcceptedIsWritten
  pub same_drive_by_words : SameDriveByWords
  pub roll_accepts : RollAccepts
  pub roll_of_drives : RollOfDrives
  pub writer_accepts : WriterAccepts
  pub pages_of_the_writer : PagesOfTheWriter
  pub pages_of_inquiry : PagesOfInquiry
  pub stream_of_runs : StreamOfRuns
  pub inquiry_from_a_stream : InquiryFromAStream
  pub roll_of_streams : RollOfStreams
  pub carried_sum : CarriedSum
  pub census_of_blocks : CensusOfBlocks
  pub others_left_out : OthersLeftOut
  pub built_reads_back : BuiltReadsBack
  pub built_exactly_when : BuiltExactlyWhen
  pub same_order_same_fields : SameOrderSameFields
  pub check_of_captures : CheckOfCaptures
  pub own_replies_accepted : OwnRepliesAccepted
