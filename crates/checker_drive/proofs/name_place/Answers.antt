-- `name_place`: the head, then the name.
use mathlib.Core.Path.{refl}
use mathlib.Core.List.{List, [], ◌∷◌}
use Prim.Native.Nat.{ℕ}
use native.Mathlib.Omega.{arith}
use Rattle.identify.specs.Block.{name}
use Rattle.texts.specs.Text.{turned}
use Rattle.texts.proofs.Text.{shown_as_it_is}
use Rattle.agreement.proofs.Laws.{reaches_within, differs_first, then_second}
use Rattle.checker_drive.proofs.name_place.Goals as goal

-- What the descriptor starts with.
abbrev head : List ℕ
head = 0x01 ∷ 0x03 ∷ 0x00 ∷ 0x08 ∷ []

pub returns-then-at-lt8 : goal.returns-then-at-lt8
returns-then-at-lt8 c =
    let a = c.args in
    differs_first a.bytes.now head (turned (name a.block.now)) 4 8 refl c.bytes-at.ensures c.if-at-lt8.true

pub text-requires : goal.text-requires
text-requires c =
    omega (arith, reaches_within c.args.bytes.now head 4 c.bytes-at.ensures c.requires.0, c.if-at-lt8.false)

pub returns : goal.returns
returns c =
    let a = c.args in
    let text = rw (c.name.ensures, shown_as_it_is) at c.text.ensures in
    then_second a.bytes.now head (turned (name a.block.now)) 4 8 refl c.bytes-at.ensures c.if-at-lt8.false text
