-- What is taken over an order that is pending: a reset, and only where no reset is pending.
use mathlib.Core.Path.{◌≡◌, refl, sym, ◌∙◌}
use mathlib.Core.Bool.{Bool, true, false, cond, not, ◌&&◌, true≢false}
use mathlib.Core.List.{List}
use Prim.Native.Nat.{ℕ}
use lib.Dec.{eqb}
use lib.ListN.{length}
use Rattle.rules.proofs.First.{silent}
use Rattle.refusals.specs.Refusal.{no_status}
use Rattle.passthrough_fields.specs.Fields.{protocol}
use Rattle.passthrough_length.specs.Length.{block_size, length_of}
use Rattle.passthrough_order.specs.Order.{reset, reset_order, command_order, order_of}
use Rattle.passthrough_checks.specs.Checks as Check
use Rattle.passthrough.specs.declared.Pending.{Pending}
use Rattle.passthrough.specs.Record.{holding, nothing_pending, reset_pending}
use Rattle.passthrough.specs.Submit as Submit

-- The order of a reset is made of its protocol and its quiet seconds alone.
pub reset_whole : (command : List ℕ) (bytes : ℕ) → reset (protocol command) ≡ true → order_of command bytes ≡ reset_order command
unfolding order_of
reset_whole command bytes r = rw r

pub command_whole : (command : List ℕ) (bytes : ℕ) → reset (protocol command) ≡ false → order_of command bytes ≡ command_order command bytes
unfolding order_of
command_whole command bytes r = rw r

module _ (p : Pending) (command registers block : List ℕ) (declared edition sense : ℕ) (e : Submit.refusal_of p command registers block declared edition sense ≡ 0) where
  waits_not : Check.waits (not (nothing_pending p)) (reset_pending p) (protocol command) ≡ false
  unfolding Check.refusal_of
  waits_not = (silent (Check.checks_of (not (nothing_pending p)) (reset_pending p) (Submit.is_later edition) command (length registers) block declared sense) refl e).1.1.1.1.1.1.1.1.1.0

  pub taken_over : eqb (protocol command) 15 ≡ false → nothing_pending p ≡ false → (reset (protocol command) ≡ true) × (reset_pending p ≡ false)
  taken_over f n = by (reset (protocol command)) refl waits_not
    where
      by : (b : Bool) → reset (protocol command) ≡ b → cond b (reset_pending p) (not (nothing_pending p) && not (eqb (protocol command) 15)) ≡ false → (b ≡ true) × (reset_pending p ≡ false)
      by true r w = (refl, w)
      by false r w = absurd (true≢false (rw (n, f) at w))

  -- Any other order is taken where nothing is pending.
  pub taken_alone : eqb (protocol command) 15 ≡ false → reset (protocol command) ≡ false → nothing_pending p ≡ true
  taken_alone f r = by (nothing_pending p) refl
    where
      by : (b : Bool) → nothing_pending p ≡ b → b ≡ true
      by true n = refl
      by false n = absurd (true≢false (sym (taken_over f n).0 ∙ r))

-- Such an order is held by itself, with all its fields.
pub taken_command : (p : Pending) (command registers block : List ℕ) (declared edition form : ℕ) (sense : List ℕ) → Submit.refusal_of p command registers block declared edition (length sense) ≡ 0 → eqb (protocol command) 15 ≡ false → reset (protocol command) ≡ false
    → let order = command_order command (length_of (block_size (Submit.is_later edition) block command) command declared) in Submit.submit p command registers block declared edition form sense ≡ Submit.outcome (Submit.answer (holding order) 0 no_status order) sense
unfolding Submit.submit
taken_command p command registers block declared edition form sense e f r =
    rw (e, f, command_whole command (length_of (block_size (Submit.is_later edition) block command) command declared) r, taken_alone p command registers block declared edition (length sense) e f r)
