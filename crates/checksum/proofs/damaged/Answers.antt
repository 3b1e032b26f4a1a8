-- `damaged`: not asked of another size, nor without A5h; else the sum decides.
use Rattle.std.proofs.Common.{◌≡◌, ◌%◌, get_or, take, sym, arith, length-take-le, take_all, eq-eqb, ne_eqb}
use Rattle.checksum.specs.Checksum.{damaged, damaged_by, sum_of}
use Rattle.checksum.proofs.damaged.Goals as goal

pub returns-then-block-ne512 : goal.returns-then-block-ne512
unfolding damaged damaged_by
returns-then-block-ne512 c = rw (ne_eqb _ _ c.if-block-ne512.true)

pub returns-then-block : goal.returns-then-block
unfolding damaged damaged_by
returns-then-block c =
    let byte = get_or c.args.block.now 510 0 in
    rw (eq-eqb _ _ c.if-block-ne512.false, ne_eqb byte 0xA5 (λ e. absurd (omega (arith, e, c.if-block.true))))

pub slice_bounds-total-end : goal.slice_bounds-total-end
slice_bounds-total-end c = sym (length-take-le _ c.args.block.now (omega (arith, c.if-block-ne512.false)))

pub returns : goal.returns
unfolding damaged damaged_by
returns c =
    let block = c.args.block.now in
    let size = c.if-block-ne512.false in
    let all : take 512 block ≡ block = take_all 512 block (omega (arith, size)) in
    let sum : c.total.result ≡ sum_of block % 256 = rw all at c.total.ensures in
    rw (eq-eqb _ _ size, eq-eqb (get_or block 510 0) 0xA5 (omega (arith, c.if-block.false)), sum)
