-- Laws of the first descriptor of page 83h: its forms, and lengths.
use mathlib.Core.Path.{◌≡◌, refl, ◌∙◌}
use mathlib.Core.Bool.{Bool, true, false}
use mathlib.Core.List.{List, ◌++◌}
use Prim.Native.Nat.{ℕ, ◌+◌}
use native.Mathlib.Omega.{arith}
use lib.ListN.{length, length-append}
use Rattle.identify.specs.Block.{serial, model, name}
use Rattle.texts.specs.Text.{turned, spaced}
use Rattle.identify.specs.Names.{carries_name}
use Rattle.identify.proofs.Block.{length_serial, length_model, length_name}
use Rattle.texts.proofs.Text.{length_turned, length_spaced}
use Rattle.page83_drive.specs.Descriptor.{head, name_descriptor, text_descriptor, drive_descriptor, ata}
use Rattle.page83_drive.specs.Helpers.{drive_end}

module _ (block : List ℕ) where
  pub named_drive : carries_name block ≡ true → drive_descriptor block ≡ name_descriptor (turned (name block))
  unfolding drive_descriptor
  named_drive h = rw h

  pub unnamed_drive : carries_name block ≡ false → drive_descriptor block ≡ text_descriptor (spaced (turned (model block))) (spaced (turned (serial block)))
  unfolding drive_descriptor
  unnamed_drive h = rw h

-- The size of the first descriptor: 12 or 72 bytes.
module _ (block : List ℕ) (h : length block ≡ 512) where
  pub length_model_text : length (spaced (turned (model block))) ≡ 40
  length_model_text = length_spaced (turned (model block)) ∙ length_turned (model block) ∙ length_model block h

  pub length_serial_text : length (spaced (turned (serial block))) ≡ 20
  length_serial_text = length_spaced (turned (serial block)) ∙ length_turned (serial block) ∙ length_serial block h

  pub length_named : carries_name block ≡ true → length (drive_descriptor block) ≡ 12
  length_named e = rw (named_drive block e) (omega (arith, length_turned (name block), length_name block h))

  pub length_unnamed : carries_name block ≡ false → length (drive_descriptor block) ≡ 72
  length_unnamed e =
      let m = spaced (turned (model block)) in
      let s = spaced (turned (serial block)) in
      rw (unnamed_drive block e) (omega (arith, length-append (ata ++ m) s, length-append ata m, length_model_text, length_serial_text))

  pub length_drive : 4 + length (drive_descriptor block) ≡ drive_end (carries_name block)
  length_drive = by (carries_name block) refl
    where
      by : (b : Bool) → carries_name block ≡ b → 4 + length (drive_descriptor block) ≡ drive_end b
      by true e = omega (arith, length_named e)
      by false e = omega (arith, length_unnamed e)

  -- Where it ends in the page.
  pub named_end : 16 ≡ 0 + length (head 0 ++ name_descriptor (turned (name block)))
  named_end = omega (arith, length_turned (name block), length_name block h)

  pub unnamed_end : 76 ≡ 0 + length (head 0 ++ text_descriptor (spaced (turned (model block))) (spaced (turned (serial block))))
  unnamed_end =
      let m = spaced (turned (model block)) in
      let s = spaced (turned (serial block)) in
      omega (arith, length-append (ata ++ m) s, length-append ata m, length_model_text, length_serial_text)
