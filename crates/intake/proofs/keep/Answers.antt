-- `keep`: before turn i the first i bytes stand in the store, and the sum is that of a list which the sum handed in heads.
use Rattle.std.proofs.Common.{◌≡◌, ℕ, ◌+◌, ◌%◌, List, [], ◌∷◌, get_or, refl, add-one, arith}
use Rattle.room.proofs.Laws.{begin, turn, next, done}
use Rattle.checksum.specs.Checksum.{sum_of}
use Rattle.checksum.proofs.Laws.{Summing, more, all_summed}
use Rattle.intake.proofs.keep.Goals as goal

headed : (before : ℕ) (bytes : List ℕ) → Summing (before ∷ bytes) (before % 256) 1
unfolding sum_of
headed before bytes = record { upto = omega arith; left = omega arith; small = omega arith }

behind_head : (before : ℕ) (bytes : List ℕ) (i : ℕ) → get_or (before ∷ bytes) (i + 1) 0 ≡ get_or bytes i 0
behind_head before bytes i = rw add-one

pub loop-i-init : goal.loop-i-init
loop-i-init c = (begin _ _ _, headed _ _)

pub loop-i-preserved : goal.loop-i-preserved
loop-i-preserved c =
    let w = c.loop-i in
    let bytes = c.args.bytes.now in
    let byte = get_or bytes w.i 0 in
    (turn {piece = byte ∷ []} w.invariant.0 (record { leaves = refl }) (next bytes w.i c.loop-i-test.true) refl, more _ w.invariant.1 (omega arith) (rw behind_head c.wrapping_add_u8-sum.ensures.value))

pub returns : goal.returns
unfolding sum_of
returns c = (done c.loop-i.invariant.0 (omega arith), all_summed c.loop-i.invariant.1 (omega arith))
