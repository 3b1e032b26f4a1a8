-- `block`: what is left of 572 bytes behind 60.
use lib.ListN.{drop, length-drop}
use lib.Seq.{take_all}
use native.Mathlib.Omega.{arith}
use Rattle.checker.proofs.block.Goals as goal

pub returns-clause-bytes : goal.returns-clause-bytes
returns-clause-bytes c =
    let l = length-drop 60 c.args.page.now in
    rw (take_all 512 (drop 60 c.args.page.now) (omega (arith, l, c.requires)))
