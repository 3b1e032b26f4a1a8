-- `block_size`: by the edition, T_TYPE and whether there is a block.
use mathlib.Core.Path.{◌≡◌, sym}
use mathlib.Core.Bool.{Bool, true, ◌&&◌, and-eq-true_iff}
use Prim.Native.Nat.{ℕ}
use native.Mathlib.Omega.{arith}
use lib.Dec.{eqb}
use lib.ListN.{length, take}
use lib.Seq.{take_all, length-take-le}
use borrow.Author.Tests.{eqb-true}
use Rattle.passthrough_length.proofs.Laws.{no_block}
use Rattle.passthrough_length.proofs.block_size.Goals as goal

-- Where the block is looked at, it has 512 bytes.
counted : (sectors : Bool) (size : ℕ) → (sectors && eqb size 512) ≡ true → (sectors ≡ true) × (size ≡ 512)
counted sectors size e =
    let both = (and-eq-true_iff sectors (eqb size 512)).0 e in
    (both.0, eqb-true _ _ both.1)

pub slice_bounds-sector_size-end : goal.slice_bounds-sector_size-end
slice_bounds-sector_size-end c =
    let a = c.args in
    let here = counted _ (length a.block.now) c.if-later-t_type.true in
    sym (length-take-le _ a.block.now (omega (arith, here.1)))

pub returns-then-later-t_type-clause-size : goal.returns-then-later-t_type-clause-size
returns-then-later-t_type-clause-size c = let a = c.args in
    let here = counted _ (length a.block.now) c.if-later-t_type.true in
    let all : take 512 a.block.now ≡ a.block.now = take_all 512 a.block.now (omega (arith, here.1)) in
    rw (← c.t_type.ensures, here.0) (rw all at c.sector_size.ensures.size)

pub returns-clause-size : goal.returns-clause-size
returns-clause-size c = let a = c.args in
    rw (← c.t_type.ensures) (no_block a.later c.t_type.result a.block.now c.requires.1 c.if-later-t_type.false)
