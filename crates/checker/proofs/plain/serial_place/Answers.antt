-- `serial_place`: the head, then the serial number.
use mathlib.Core.Path.{refl}
use native.Mathlib.Omega.{arith}
use mathlib.Core.List.{List, [], ◌∷◌}
use Prim.Native.Nat.{ℕ}
use Rattle.identify.specs.Block.{serial}
use Rattle.texts.specs.Text.{turned, spaced}
use Rattle.pages.specs.Page.{page80}
use Rattle.agreement.proofs.Laws.{reaches_within, differs_first, then_second}
use Rattle.checker.proofs.plain.serial_place.Goals as goal

-- What the page starts with.
abbrev head : List ℕ
head = 0x00 ∷ 0x80 ∷ 0x00 ∷ 0x14 ∷ []

pub returns-then-at-lt4 : goal.returns-then-at-lt4
unfolding page80
returns-then-at-lt4 c =
    let a = c.args in
    omega (arith, differs_first a.bytes.now head (spaced (turned (serial a.block.now))) 0 4 refl c.bytes-at.ensures c.if-at-lt4.true)

pub text-requires : goal.text-requires
text-requires c = omega (arith, reaches_within c.args.bytes.now head 0 c.bytes-at.ensures (omega arith), c.if-at-lt4.false)

pub returns : goal.returns
unfolding page80
returns c =
    let a = c.args in
    let text = rw c.serial.ensures at c.text.ensures in
    omega (arith, then_second a.bytes.now head (spaced (turned (serial a.block.now))) 0 4 refl c.bytes-at.ensures c.if-at-lt4.false text)
