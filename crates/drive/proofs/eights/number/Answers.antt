-- `number`: eight bytes, pair by pair.
use native.Mathlib.Omega.{arith}
use Rattle.drive.proofs.Number.{eight_bytes_is, all_bytes}
use Rattle.drive.proofs.eights.number.Goals as goal

pub returns-clause-value : goal.returns-clause-value
returns-clause-value c = let bytes = c.args.bytes.now in
    omega (arith, eight_bytes_is bytes c.requires)

pub returns-clause-each : goal.returns-clause-each
returns-clause-each c = let bytes = c.args.bytes.now in
    all_bytes bytes (λ k. (c.shared_slice_known-1.given k).fits)
