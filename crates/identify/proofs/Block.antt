-- Laws of a block's fields.
use mathlib.Core.Path.{◌≡◌}
use mathlib.Core.List.{List}
use Prim.Native.Nat.{ℕ, ◌+◌, ◌*◌, ◌-◌, ◌≤◌}
use native.Mathlib.Omega.{arith}
use lib.ListN.{length, length-take, length-drop}
use Rattle.identify.specs.Block.{words, serial, firmware, model, name}

-- A field that the block holds whole has two bytes a word.
pub length_words : (first last : ℕ) (block : List ℕ) → 2 * (last + 1) ≤ length block → length (words first last block) ≡ 2 * (last + 1 - first)
length_words first last block h = simp (length-take, length-drop) (omega arith)

-- The fields of a whole block.
module _ (block : List ℕ) (h : length block ≡ 512) where
  pub length_serial : length (serial block) ≡ 20
  length_serial = length_words 10 19 block (omega arith)

  pub length_firmware : length (firmware block) ≡ 8
  length_firmware = length_words 23 26 block (omega arith)

  pub length_model : length (model block) ≡ 40
  length_model = length_words 27 46 block (omega arith)

  pub length_name : length (name block) ≡ 8
  length_name = length_words 108 111 block (omega arith)
