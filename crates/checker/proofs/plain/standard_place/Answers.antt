-- `standard_place`: the head, the product text, the revision.
use mathlib.Core.Path.{refl}
use mathlib.Core.List.{List, ◌++◌}
use Prim.Native.Nat.{ℕ}
use native.Mathlib.Omega.{arith}
use lib.ListN.{take}
use Rattle.identify.specs.Block.{model, firmware}
use Rattle.identify.proofs.Block.{length_firmware}
use Rattle.texts.specs.Text.{turned, revision}
use Rattle.texts.proofs.Text.{shown_as_it_is}
use Rattle.laws.proofs.Laws.{cut_turned}
use Rattle.pages.specs.Page.{standard_head, standard}
use Rattle.pages.proofs.Laws.{length_product}
use Rattle.agreement.proofs.Laws.{reaches_within, differs_first, then_second}
use Rattle.checker.proofs.plain.standard_place.Goals as goal

-- The product text.
abbrev product : List ℕ → List ℕ
product block = take 16 (turned (model block))

pub returns-then-at-lt16 : goal.returns-then-at-lt16
unfolding standard
returns-then-at-lt16 c =
    let a = c.args in
    let head = rw c.standard_head-head.ensures at c.bytes-at.ensures in
    omega (arith, differs_first a.bytes.now (standard_head a.block.now) (product a.block.now ++ revision (firmware a.block.now)) 0 16 refl head c.if-at-lt16.true)

pub text-at-requires : goal.text-at-requires
text-at-requires c =
    let a = c.args in
    omega (arith, reaches_within a.bytes.now _ 0 c.bytes-at.ensures (omega arith), c.if-at-lt16.false)

pub returns-then-at-lt32 : goal.returns-then-at-lt32
unfolding standard
returns-then-at-lt32 c =
    let run = c.args.bytes.now in
    let block = c.args.block.now in
    let head = rw c.standard_head-head.ensures at c.bytes-at.ensures in
    let text = rw (c.product.ensures, shown_as_it_is, ← cut_turned 8 (model block)) at c.text-at.ensures in
    omega (arith, then_second run (standard_head block) (product block ++ revision (firmware block)) 0 16 refl head c.if-at-lt16.false (differs_first run (product block) (revision (firmware block)) 16 32 (omega (arith, length_product block c.requires)) text c.if-at-lt32.true))

pub revision_part-requires : goal.revision_part-requires
revision_part-requires c =
    rw c.firmware.ensures (length_firmware c.args.block.now c.requires)

pub text-requires : goal.text-requires
text-requires c =
    let a = c.args in
    omega (arith, reaches_within a.bytes.now _ 16 c.text-at.ensures (omega (arith, reaches_within a.bytes.now _ 0 c.bytes-at.ensures (omega arith), c.if-at-lt16.false)), c.if-at-lt32.false)

pub returns : goal.returns
unfolding standard revision
returns c =
    let run = c.args.bytes.now in
    let block = c.args.block.now in
    let head = rw c.standard_head-head.ensures at c.bytes-at.ensures in
    let text = rw (c.product.ensures, shown_as_it_is, ← cut_turned 8 (model block)) at c.text-at.ensures in
    let last = rw (c.revision_part.ensures.part, c.firmware.ensures, shown_as_it_is) at c.text.ensures in
    omega (arith, then_second run (standard_head block) (product block ++ revision (firmware block)) 0 16 refl head c.if-at-lt16.false (then_second run (product block) (revision (firmware block)) 16 32 (omega (arith, length_product block c.requires)) text c.if-at-lt32.false last))
