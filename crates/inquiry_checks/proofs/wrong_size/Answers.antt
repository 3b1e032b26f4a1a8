-- `wrong_size`: each way by its tests.
use mathlib.Core.Path.{◌≡◌, ◌∙◌, sym}
use mathlib.Core.Bool.{false, ◌||◌}
use mathlib.Core.List.{List}
use Prim.Native.Nat.{ℕ}
use borrow.Author.Tests.{eq-eqb, le-ltb}
use Rattle.rules.proofs.First.{neither}
use Rattle.port.specs.declared.Ports.{Ports}
use Rattle.port.specs.Ports.{relative_chosen, sas_chosen, wrong_address}
use Rattle.inquiry_checks.proofs.wrong_size.Goals as goal

-- Where no port is chosen the address is not wrong.
unasked : (ports : Ports) (address : List ℕ) → (relative_chosen ports || sas_chosen ports) ≡ false → wrong_address ports address ≡ false
unfolding wrong_address
unasked ports address none = rw (neither (relative_chosen ports) (sas_chosen ports) none).1

pub returns : goal.returns
returns c =
    simp (unasked c.args.ports c.args.address.now (sym c.chosen.ensures ∙ c.if-chosen.false), le-ltb _ _ c.if-sense-lt22.false, eq-eqb _ _ c.if-texts-ne28.false, eq-eqb _ _ c.if-signature-ne20.false, sym c.wrong_block.ensures ∙ c.if-wrong_block.false)
