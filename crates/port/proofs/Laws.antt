-- Laws of the ports' part of page 83h, and its length.
use mathlib.Core.Path.{◌≡◌, refl, ◌∙◌}
use mathlib.Core.Bool.{Bool, true, false, cond, ◌||◌}
use mathlib.Core.List.{List, []}
use Prim.Native.Nat.{ℕ}
use native.Mathlib.Omega.{arith}
use lib.ListN.{length, length-append}
use borrow.Author.Tests.{eqb-true, not-false}
use Rattle.rules.proofs.First.{neither}
use Rattle.port.specs.declared.Ports.{Ports}
use Rattle.port.specs.Ports.{relative_chosen, sas_chosen, relative_port, sas_port, relative_part, sas_part, ports_part, wrong_address, is_port, wrong_port}
use Rattle.port.specs.Helpers.{ports_size}

-- The size of the ports' part, where a chosen address has its 8 bytes.
module _ (ports : Ports) where
  pub right_port : wrong_port ports ≡ false → relative_chosen ports ≡ true → is_port ports.relative ≡ true
  unfolding wrong_port
  right_port h c = not-false _ (rw c at h)

  pub length_relative : length (relative_part ports) ≡ cond (relative_chosen ports) 8 0
  unfolding relative_part
  length_relative = by (relative_chosen ports)
    where
      by : (b : Bool) → length (cond b (relative_port ports.relative) []) ≡ cond b 8 0
      by true = refl
      by false = refl

  pub nothing_sized : (relative_chosen ports || sas_chosen ports) ≡ false → ports_size ports ≡ 0
  unfolding ports_size
  nothing_sized e =
      let none = neither (relative_chosen ports) (sas_chosen ports) e in
      rw (none.0, none.1)

module _ (ports : Ports) (address : List ℕ) where
  pub right_address : wrong_address ports address ≡ false → sas_chosen ports ≡ true → length address ≡ 8
  unfolding wrong_address
  right_address h c = eqb-true _ _ (not-false _ (rw c at h))

  pub nothing_chosen : (relative_chosen ports || sas_chosen ports) ≡ false → ports_part ports address ≡ []
  unfolding relative_part sas_part
  nothing_chosen e =
      let none = neither (relative_chosen ports) (sas_chosen ports) e in
      rw (none.0, none.1)

  pub length_sas : wrong_address ports address ≡ false → length (sas_part ports address) ≡ cond (sas_chosen ports) 12 0
  unfolding sas_part
  length_sas h = by (sas_chosen ports) refl
    where
      by : (b : Bool) → sas_chosen ports ≡ b → length (cond b (sas_port address) []) ≡ cond b 12 0
      by true c = omega (arith, right_address h c)
      by false c = refl

  pub length_ports : wrong_address ports address ≡ false → length (ports_part ports address) ≡ ports_size ports
  unfolding ports_size
  length_ports h = length-append (relative_part ports) (sas_part ports address) ∙ rw (length_relative ports, length_sas h)
