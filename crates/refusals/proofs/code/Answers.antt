-- `code`: the row that an arm names is the row of the number that comes to it, and past the table there is none.
use mathlib.Core.Path.{◌≡◌, ap, sym}
use mathlib.Core.Logic.{⊎_elim}
use native.Mathlib.Nat.{eq-zero-or-pos}
use native.Mathlib.Omega.{arith}
use Prim.Native.Nat.{ℕ}
use Rattle.refusals.specs.Refusal.{row_of, three_bytes}
use Rattle.refusals.proofs.Table.{row_past}
use Rattle.refusals.proofs.code.Goals as goal

of : {n k : ℕ} → n ≡ k → three_bytes (row_of k) ≡ three_bytes (row_of n)
of e = ap (λ (m : ℕ). three_bytes (row_of m)) (sym e)

-- No arm takes the number: it is 0, or past the table.
pub returns-in_default : goal.returns-in_default
unfolding row_of
returns-in_default c =
    let n = c.args.number in
    ⊎_elim (λ z. of z) (λ h. ap three_bytes (sym (row_past n (omega arith)))) (eq-zero-or-pos n)
