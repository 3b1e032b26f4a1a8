-- The IDENTIFY block: 512 bytes that a drive tells of itself (RULES 5). A block is the list of its bytes.
use Rattle.std.specs.Prelude.{List, ℕ, ◌+◌, ◌*◌, ◌-◌, get_or, take, drop}

-- Word w: byte 2w is its low byte, byte 2w + 1 its high byte.
abbrev pub word : List ℕ → ℕ → ℕ
word block w = get_or block (2 * w) 0 + 0x100 * get_or block (2 * w + 1) 0

-- The bytes of the words from `first` to `last`, as they stand in the block.
abbrev pub words : ℕ → ℕ → List ℕ → List ℕ
words first last block = take (2 * (last + 1 - first)) (drop (2 * first) block)

-- The serial number: words 10 to 19.
abbrev pub serial : List ℕ → List ℕ
serial block = words 10 19 block

-- The firmware text: words 23 to 26.
abbrev pub firmware : List ℕ → List ℕ
firmware block = words 23 26 block

-- The model: words 27 to 46.
abbrev pub model : List ℕ → List ℕ
model block = words 27 46 block

-- The world wide name: words 108 to 111.
abbrev pub name : List ℕ → List ℕ
name block = words 108 111 block
