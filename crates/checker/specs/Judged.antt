-- What is said of a capture that is judged (RULES 15.2 and 15.3).
use Rattle.std.specs.Prelude.{◌≡◌, true, false, ℕ, ◌≤◌, ◌<◌, length, get_or}
use mathlib.Core.List.{List, [], ◌∷◌, ◌++◌, Memᴰ}
use Rattle.checksum.specs.Checksum.{damaged}
use Rattle.port.specs.declared.Ports.{Ports}
use Rattle.port.specs.Ports.{wrong_address, wrong_port}
use Rattle.packet.specs.Packet.{packet_drive}
use Rattle.capture.specs.Capture.{Field, field}
use Rattle.capture.specs.Layout.{LaidOut}
use Rattle.checker.specs.Check.{signature_of, block_of, ours}

-- A choice of ports that the writer takes.
pub record Choice (ports : Ports) (address : List ℕ) : Type 0 where
  pub right_address : wrong_address ports address ≡ false
  pub right_port : wrong_port ports ≡ false

-- A field is the writer's: it is what our writers give with some choice of ports.
abbrev pub Written : List ℕ → Field → Type 0
Written page89h f = (ports : Ports) × (address : List ℕ) × Choice ports address × (f.bytes ≡ ours page89h ports address f.tag)

-- The place of the first byte in which two runs differ, or the shorter length where one is the start of the other.
pub record DifferAt (s t : List ℕ) (place : ℕ) : Type 0 where
  pub in_first : place ≤ length s
  pub in_second : place ≤ length t
  pub same_before : (k : ℕ) → k < place → get_or s k 0 ≡ get_or t k 0
  pub apart_there : place < length s → place < length t → get_or s place 0 ≡ get_or t place 0 → ⊥

-- The furthest such place of a field over all choices of ports, whatever the address is.
pub record Furthest (page89h : List ℕ) (f : Field) (place : ℕ) : Type 0 where
  pub reached : (ports : Ports) × (address : List ℕ) × Choice ports address × DifferAt f.bytes (ours page89h ports address f.tag) place
  pub no_further : (ports : Ports) (address : List ℕ) (other : ℕ) → Choice ports address → DifferAt f.bytes (ours page89h ports address f.tag) other → other ≤ place

-- A capture that is judged: its layout holds, the drive is no packet drive, and the block passes. Its fields are these.
pub record Judgeable (capture : List ℕ) (before : List Field) (page89h : List ℕ) : Type 0 where
  pub laid_out : LaidOut capture before page89h
  pub no_packet_drive : packet_drive (signature_of page89h) ≡ false
  pub passes : damaged (block_of page89h) ≡ false

abbrev pub all : List Field → List ℕ → List Field
all before page89h = before ++ (field 0x89 page89h ∷ [])

-- It is to be accepted: every field is the writer's.
pub record Acceptable (capture : List ℕ) : Type 0 where
  pub before : List Field
  pub page89h : List ℕ
  pub judgeable : Judgeable capture before page89h
  pub all_written : (f : Field) → Memᴰ f (all before page89h) → Written page89h f

-- A field is at fault, the first of them, and differs at a place.
pub record AtFault (capture : List ℕ) (tag place : ℕ) : Type 0 where
  pub before : List Field
  pub page89h : List ℕ
  pub judgeable : Judgeable capture before page89h
  pub earlier : List Field
  pub at_fault : Field
  pub later : List Field
  pub parts : all before page89h ≡ earlier ++ (at_fault ∷ later)
  pub earlier_written : (f : Field) → Memᴰ f earlier → Written page89h f
  pub not_written : Written page89h at_fault → ⊥
  pub its_tag : at_fault.tag ≡ tag
  pub its_place : Furthest page89h at_fault place

-- It is of a packet drive, or its block is damaged.
abbrev pub OfAPacketDrive : List ℕ → Type 0
OfAPacketDrive capture = (before : List Field) × (page89h : List ℕ) × LaidOut capture before page89h × (packet_drive (signature_of page89h) ≡ true)

abbrev pub OfADamagedBlock : List ℕ → Type 0
OfADamagedBlock capture = (before : List Field) × (page89h : List ℕ) × LaidOut capture before page89h × (packet_drive (signature_of page89h) ≡ false) × (damaged (block_of page89h) ≡ true)
