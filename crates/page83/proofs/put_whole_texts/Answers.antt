-- `put_whole_texts`: nothing, or the page without ports and then they.
use mathlib.Core.Path.{sym, ap}
use Prim.Native.Nat.{ℕ, ◌+◌}
use native.Mathlib.Omega.{arith}
use Rattle.page83.proofs.Laws.{page_size_is, grown_texts}
use Rattle.page83.proofs.put_whole_texts.Goals as goal

pub returns : goal.returns
returns c =
    let block = c.args.block.now in
    let grown = c.size-grown.ensures.value in
    let fit = c.lesser.ensures in
    let page = grown_texts block c.args.ports c.args.address.now c.requires.0 c.requires.1.0 c.requires.1.1 (ap (λ (n : ℕ). 72 + n) grown) c.store_texts.ensures c.store_ports.ensures in
    record {
      none = λ z. absurd (omega (arith, z));
      whole = λ n. (sym (rw (c.requires.1.1, ← grown) at (page_size_is block c.args.ports c.args.address.now c.requires.0 c.requires.1.0)), (omega (arith, fit), (omega (arith, fit), page)));
    }
