-- `block_at`: 512 bytes from its place on.
use mathlib.Core.Path.{◌≡◌}
use Prim.Native.Nat.{◌+◌, ◌*◌, ◌-◌}
use native.Mathlib.Omega.{arith}
use Rattle.roll.proofs.block_at.Goals as goal

pub returns-clause-block : goal.returns-clause-block
returns-clause-block c = let i = c.args.i in
    let e : 512 * i + 512 - 512 * i ≡ 512 = omega arith in
    rw e
