-- The pages' lengths, over the pieces that they are made of.
use mathlib.Core.Path.{◌≡◌}
use mathlib.Core.Bool.{Bool}
use mathlib.Core.List.{List}
use Prim.Native.Nat.{ℕ, ◌+◌}
use native.Mathlib.Omega.{arith}
use lib.ListN.{length, take, length-append, length-take}
use Rattle.identify.specs.Block.{serial, firmware, model}
use Rattle.texts.specs.Text.{turned}
use Rattle.identify.proofs.Block.{length_serial, length_firmware, length_model}
use Rattle.texts.proofs.Text.{length_turned, length_spaced, length_revision}
use Rattle.pages.specs.Page.{standard, page80, page89, block_or_zeros}

-- Of a whole block.
module _ (block : List ℕ) (h : length block ≡ 512) where
  pub length_product : length (take 16 (turned (model block))) ≡ 16
  length_product = rw (length-take, length_turned, length_model block h)

  pub length_standard : length (standard block) ≡ 36
  unfolding standard
  length_standard =
      simp length-append (omega (arith, length_product, length_revision (firmware block) (length_firmware block h)))

  pub length_page80 : length (page80 block) ≡ 24
  unfolding page80
  length_page80 = omega (arith, length_spaced (turned (serial block)), length_turned (serial block), length_serial block h)

pub length_page89 : (packet : Bool) (texts signature block : List ℕ) → length texts ≡ 28 → length signature ≡ 20 → length (page89 packet texts signature block) ≡ 60 + length (block_or_zeros block)
unfolding page89
length_page89 packet texts signature block ht hs = simp length-append (omega arith)
