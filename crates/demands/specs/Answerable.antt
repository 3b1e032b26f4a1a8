-- What INQUIRY answers: each row of its table of checks turned round, in words (RULES 3 and 4).
use Rattle.std.specs.Prelude.{◌≡◌, true, false, ◌⊎◌, List, ℕ, ◌≤◌, length, get_or}
use Rattle.checksum.specs.Checksum.{damaged}
use Rattle.port.specs.Ports.{relative_chosen, sas_chosen}
use Rattle.packet.specs.Packet.{unusable}
use Rattle.inquiry_fields.specs.Fields.{evpd, cmddt, page_code, naca}
use Rattle.inquiry_asked.specs.Request.{Request, request, is_packet}
use Rattle.inquiry_asked.specs.Asked.{to_write}
use Rattle.intake.specs.Intake.{block_of}

-- A command asks for standard data, or for the page of a code.
abbrev pub AsksStandard : List ℕ → Type 0
AsksStandard command = evpd command ≡ false

abbrev pub AsksPage : ℕ → List ℕ → Type 0
AsksPage code command = (evpd command ≡ true) × (page_code command ≡ code)

-- It asks for what is made of the block.
abbrev pub AsksOfBlock : List ℕ → Type 0
AsksOfBlock command = AsksStandard command ⊎ AsksPage 0x80 command ⊎ AsksPage 0x83 command

-- The pages that there are, and the numbers of a relative target port.
abbrev pub Known : ℕ → Type 0
Known code = (code ≡ 0x00) ⊎ (code ≡ 0x80) ⊎ (code ≡ 0x83) ⊎ (code ≡ 0x89)

abbrev pub PortNumber : ℕ → Type 0
PortNumber number = (number ≡ 1) ⊎ (number ≡ 2)

-- A drive is no packet drive, or it is one.
abbrev pub Disk : Request → Type 0
Disk q = is_packet q ≡ false

abbrev pub PacketDrive : Request → Type 0
PacketDrive q = is_packet q ≡ true

-- Of a packet drive page 00h or 89h is made here, with EVPD one and CMDDT zero; to all else its own reply passes through (RULES 7).
abbrev pub ItsPage : List ℕ → Type 0
ItsPage command = (evpd command ≡ true) × (cmddt command ≡ false) × ((page_code command ≡ 0x00) ⊎ (page_code command ≡ 0x89))

abbrev pub MadeHere : Request → Type 0
MadeHere q = Disk q ⊎ ItsPage q.command

pub record Answerable (q : Request) (room sense : List ℕ) : Type 0 where
  -- 1: what is lent has its size;
  pub block_size : (length q.block ≡ 512) ⊎ (length q.block ≡ 0)
  pub signature_size : length q.signature ≡ 20
  pub texts_size : length q.texts ≡ 28
  pub address_size : sas_chosen q.ports ≡ true → length q.address ≡ 8
  pub sense_size : 22 ≤ length sense
  -- 18: the block passes;
  pub passes : damaged q.block ≡ false
  -- 2, 3, 2: the command is not empty, its opcode is 12h, and it has six bytes;
  pub not_empty : length q.command ≡ 0 → ⊥
  pub opcode : get_or q.command 0 0 ≡ 0x12
  pub whole : 6 ≤ length q.command
  -- 4, where the drive is no packet drive: NACA and CMDDT are zero, and standard data is asked for with page code 00h;
  pub no_naca : Disk q → naca q.command ≡ false
  pub no_cmddt : Disk q → cmddt q.command ≡ false
  pub no_page_code : Disk q → AsksStandard q.command → page_code q.command ≡ 0x00
  -- 5, likewise: a page that is asked for is 00h, 80h, 83h or 89h;
  pub known_page_is : Disk q → evpd q.command ≡ true → Known (page_code q.command)
  -- 6, likewise: where standard data, 80h or 83h is asked for, there is a block;
  pub block_there : Disk q → AsksOfBlock q.command → length q.block ≡ 512
  -- 19, likewise: where page 83h is asked for and a relative target port chosen, that is 1 or 2;
  pub right_port : Disk q → AsksPage 0x83 q.command → relative_chosen q.ports ≡ true → PortNumber q.ports.relative
  -- 7: where a packet drive's page 00h is made here, its own is usable;
  pub usable_page : PacketDrive q → AsksPage 0x00 q.command → cmddt q.command ≡ false → unusable q.reply ≡ false
  -- 8: and unless a reply passes through, there is room for the bytes to write.
  pub enough : MadeHere q → to_write q ≤ length room

-- The same request with another block.
abbrev pub with_block : Request → List ℕ → Request
with_block q block = request q.command block q.signature q.texts q.reply q.ports q.address

-- And from an intake (RULES 12): its store has 512 bytes, it claims no more, and with its block the request is answerable.
pub record AnswerableFrom (have : ℕ) (store : List ℕ) (q : Request) (room sense : List ℕ) : Type 0 where
  pub store_size : length store ≡ 512
  pub claim : have ≤ 512
  pub with_its_block : Answerable (with_block q (block_of have store)) room sense
