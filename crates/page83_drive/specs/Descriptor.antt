-- Page 83h as far as it tells the drive: its head, and the first descriptor (RULES 6.4).
use Rattle.std.specs.Prelude.{cond, List, [], ◌∷◌, ◌++◌, ℕ}
use Rattle.identify.specs.Block.{serial, model, name}
use Rattle.texts.specs.Text.{turned, spaced}
use Rattle.identify.specs.Names.{carries_name}

-- The vendor field: ATA and five spaces.
abbrev pub ata : List ℕ
ata = 0x41 ∷ 0x54 ∷ 0x41 ∷ 0x20 ∷ 0x20 ∷ 0x20 ∷ 0x20 ∷ 0x20 ∷ []

-- The page's head: the page code, and the size of all descriptors together.
abbrev pub head : ℕ → List ℕ
head size = 0x00 ∷ 0x83 ∷ 0x00 ∷ size ∷ []

-- The descriptor of a name, 12 bytes: `01 03 00 08` and the eight bytes of the name.
abbrev pub name_descriptor : List ℕ → List ℕ
name_descriptor bytes = 0x01 ∷ 0x03 ∷ 0x00 ∷ 0x08 ∷ bytes

-- The descriptor of texts, 72 bytes: `02 01 00 44`, the vendor, the model (40 bytes) and the serial number (20).
abbrev pub text_descriptor : List ℕ → List ℕ → List ℕ
text_descriptor model serial = 0x02 ∷ 0x01 ∷ 0x00 ∷ 0x44 ∷ ata ++ model ++ serial

-- The first descriptor names the drive: by its name, each word high byte first, where the block carries one; else by its texts,
-- turned and spaced.
unfoldable pub drive_descriptor : List ℕ → List ℕ
drive_descriptor block =
    cond (carries_name block) (name_descriptor (turned (name block)))
    (text_descriptor (spaced (turned (model block))) (spaced (turned (serial block))))
