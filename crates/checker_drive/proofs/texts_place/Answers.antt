-- `texts_place`: the head, the model, the serial number.
use mathlib.Core.Path.{refl}
use mathlib.Core.List.{List, ◌∷◌, ◌++◌}
use Prim.Native.Nat.{ℕ}
use native.Mathlib.Omega.{arith}
use Rattle.identify.specs.Block.{model, serial}
use Rattle.texts.specs.Text.{turned, spaced}
use Rattle.page83_drive.specs.Descriptor.{ata}
use Rattle.page83_drive.proofs.Laws.{length_model_text}
use Rattle.agreement.proofs.Laws.{reaches_within, differs_first, then_second}
use Rattle.checker_drive.proofs.texts_place.Goals as goal

-- What the descriptor starts with.
abbrev head : List ℕ
head = 0x02 ∷ 0x01 ∷ 0x00 ∷ 0x44 ∷ ata

pub returns-then-at-lt16 : goal.returns-then-at-lt16
returns-then-at-lt16 c =
    let a = c.args in
    differs_first a.bytes.now head (spaced (turned (model a.block.now)) ++ spaced (turned (serial a.block.now))) 4 16 refl c.bytes-at.ensures c.if-at-lt16.true

pub text-at-requires : goal.text-at-requires
text-at-requires c =
    omega (arith, reaches_within c.args.bytes.now head 4 c.bytes-at.ensures c.requires.0, c.if-at-lt16.false)

pub returns-then-at-lt56 : goal.returns-then-at-lt56
returns-then-at-lt56 c =
    let run = c.args.bytes.now in
    let model-text = spaced (turned (model c.args.block.now)) in
    let serial-text = spaced (turned (serial c.args.block.now)) in
    let text = rw c.model.ensures at c.text-at.ensures in
    then_second run head (model-text ++ serial-text) 4 16 refl c.bytes-at.ensures c.if-at-lt16.false (differs_first run model-text serial-text 16 56 (omega (arith, length_model_text c.args.block.now c.requires.1)) text c.if-at-lt56.true)

pub text-requires : goal.text-requires
text-requires c =
    omega (arith, reaches_within c.args.bytes.now _ 16 c.text-at.ensures (omega (arith, reaches_within c.args.bytes.now head 4 c.bytes-at.ensures c.requires.0, c.if-at-lt16.false)), c.if-at-lt56.false)

pub returns : goal.returns
returns c =
    let run = c.args.bytes.now in
    let model-text = spaced (turned (model c.args.block.now)) in
    let serial-text = spaced (turned (serial c.args.block.now)) in
    let text = rw c.model.ensures at c.text-at.ensures in
    let last = rw c.serial.ensures at c.text.ensures in
    then_second run head (model-text ++ serial-text) 4 16 refl c.bytes-at.ensures c.if-at-lt16.false (then_second run model-text serial-text 16 56 (omega (arith, length_model_text c.args.block.now c.requires.1)) text c.if-at-lt56.false last)
