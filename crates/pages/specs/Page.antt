-- The pages, each whole (RULES 6): a cut is the entry's, and no page knows of it.
use Rattle.std.specs.Prelude.{Bool, cond, ◌&&◌, not, List, [], ◌∷◌, ◌++◌, ℕ, eqb, length, take, replicate}
use Rattle.identify.specs.Block.{word, serial, firmware, model}
use Rattle.texts.specs.Text.{turned, spaced, revision}
use Rattle.page83_drive.specs.Descriptor.{ata}
use Rattle.rules.specs.Bits.{bit, bits}

-- Standard data, 36 bytes (RULES 6.1): the RMB bit from word 0 bit 7; the vendor; 16 bytes of the turned model, in which zero
-- bytes stay; the revision of the firmware text.
abbrev pub standard_head : List ℕ → List ℕ
standard_head block = 0x00 ∷ cond (bit 7 (word block 0)) 0x80 0x00 ∷ 0x05 ∷ 0x02 ∷ 0x1F ∷ 0x00 ∷ 0x00 ∷ 0x00 ∷ ata

unfoldable pub standard : List ℕ → List ℕ
standard block =
    standard_head block
    ++ take 16 (turned (model block))
    ++ revision (firmware block)

-- Page 00h, 8 bytes (RULES 6.2): the four pages that the board serves.
unfoldable pub page00 : List ℕ
page00 = 0x00 ∷ 0x00 ∷ 0x00 ∷ 0x04 ∷ 0x00 ∷ 0x80 ∷ 0x83 ∷ 0x89 ∷ []

-- Page 80h, 24 bytes (RULES 6.3): the serial number, turned and spaced.
unfoldable pub page80 : List ℕ → List ℕ
page80 block = 0x00 ∷ 0x80 ∷ 0x00 ∷ 0x14 ∷ spaced (turned (serial block))

-- Page 89h's type byte: bits 12:8 of word 0 for a packet drive that gave a block, 00h for all others.
abbrev pub type_byte : Bool → List ℕ → ℕ
type_byte packet block = cond (packet && not (eqb (length block) 0)) (bits 12 8 (word block 0)) 0x00

-- The command that gave the block: ECh, or A1h of a packet drive.
abbrev pub command_code : Bool → ℕ
command_code packet = cond packet 0xA1 0xEC

-- A drive that gave no block has 512 zero bytes in its place.
abbrev pub block_or_zeros : List ℕ → List ℕ
block_or_zeros block = cond (eqb (length block) 0) (replicate 512 0x00) block

-- Page 89h, 572 bytes (RULES 6.5): the translator texts from byte 8 on, the signature from 36, the command code in 56, and the
-- block from 60 on as it stands.
abbrev pub information_head : Bool → List ℕ → List ℕ
information_head packet block = type_byte packet block ∷ 0x89 ∷ 0x02 ∷ 0x38 ∷ 0x00 ∷ 0x00 ∷ 0x00 ∷ 0x00 ∷ []

abbrev pub information_code : Bool → List ℕ
information_code packet = command_code packet ∷ 0x00 ∷ 0x00 ∷ 0x00 ∷ []

unfoldable pub page89 : Bool → List ℕ → List ℕ → List ℕ → List ℕ
page89 packet texts signature block =
    information_head packet block
    ++ texts
    ++ signature
    ++ information_code packet
    ++ block_or_zeros block
