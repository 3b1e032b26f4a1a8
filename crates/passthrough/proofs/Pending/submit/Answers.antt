-- `submit`: refused by its number, told (protocol 15), a reset that is taken, refused for its length, or taken.
use mathlib.Core.Path.{◌≡◌, ◌∙◌, sym}
use mathlib.Core.Bool.{Bool, false, not}
use mathlib.Core.List.{List}
use Prim.Native.Nat.{ℕ}
use lib.Dec.{eqb}
use lib.ListN.{length}
use borrow.Author.Tests.{eq-eqb, ne_eqb}
use Rattle.rules.specs.First.{first}
use Rattle.passthrough_fields.specs.Fields.{protocol, t_length}
use Rattle.passthrough_length.specs.Length.{block_size, lacking, length_of}
use Rattle.passthrough_order.specs.Order.{reset}
use Rattle.passthrough_checks.specs.Checks.{refusal_of}
use Rattle.passthrough_checks.specs.Helpers.{data_checks, length_checks, early_refusal}
use Rattle.passthrough_checks.proofs.Laws.{taken_sized, taken_lent, taken_whole, roomy, refused_early, refused_late, data_by_length, none_for_15, none_for_reset, length_fits}
use Rattle.passthrough.specs.Submit.{is_later, submit}
use Rattle.passthrough.proofs.Over.{reset_whole, taken_command}
use Rattle.passthrough.proofs.Pending.submit.Goals as goal

-- What is refused of a command that the first checks passed hangs on its length: T_LENGTH says by itself whether there are data.
module _ (pending reset_pending later : Bool) (command : List ℕ) (registers : ℕ) (block : List ℕ) (declared sense : ℕ) (early : early_refusal pending reset_pending later command registers block sense ≡ 0) where
  late_is : {late : ℕ} → eqb (protocol command) 15 ≡ false → reset (protocol command) ≡ false
      → late ≡ first (data_checks (not (eqb (t_length command) 0)) (lacking later block command) (length_of (block_size later block command) command declared) declared)
      → late ≡ first (length_checks (protocol command) (lacking later block command) (length_of (block_size later block command) command declared) declared)
  late_is f r h = rw (← data_by_length pending reset_pending later command registers block sense early f r) at h

  by_length : {late : ℕ} → eqb (protocol command) 15 ≡ false → reset (protocol command) ≡ false
      → late ≡ first (data_checks (not (eqb (t_length command) 0)) (lacking later block command) (length_of (block_size later block command) command declared) declared)
      → late ≡ refusal_of pending reset_pending later command registers block declared sense
  by_length f r h = late_is f r h ∙ sym (refused_late pending reset_pending later command registers block declared sense early)

pub refuse-requires : goal.refuse-requires
refuse-requires c = roomy _ _ _ _ _ _ _ c.fault-number.ensures

pub returns-then-number-ne0 : goal.returns-then-number-ne0
unfolding submit
returns-then-number-ne0 c =
    let a = c.args in
    let f = rw c.reset_pending.ensures at c.fault-number.ensures in
    let h = c.if-number-ne0.true in
    rw (c.without_order.ensures, c.refuse.ensures.status, c.refuse.ensures.sense, refused_early _ _ _ a.command.now (length a.registers.now) a.block.now a.declared (length a.sense.now) (λ z. h (f ∙ z)), ← f, ne_eqb _ _ h)

pub protocol-protocol-requires : goal.protocol-protocol-requires
protocol-protocol-requires c = taken_whole _ _ _ _ _ _ _ (sym (rw c.reset_pending.ensures at c.fault-number.ensures) ∙ c.if-number-ne0.false)

pub report-requires : goal.report-requires
report-requires c = taken_sized _ _ _ _ _ _ _ (sym (rw c.reset_pending.ensures at c.fault-number.ensures) ∙ c.if-number-ne0.false)

pub returns-then-protocol-eq15 : goal.returns-then-protocol-eq15
unfolding submit
returns-then-protocol-eq15 c =
    let p = c.protocol-protocol.ensures in
    let told = c.if-protocol-eq15.true in
    let a = c.args in
    rw (c.without_order-then-protocol-eq15.ensures, c.report.ensures.leaves, refused_late _ _ _ _ _ _ a.declared _ (sym (rw c.reset_pending.ensures at c.fault-number.ensures) ∙ c.if-number-ne0.false), none_for_15 _ _ a.declared (sym p ∙ told), eq-eqb _ _ (sym p ∙ told))

pub reset_order-order-requires : goal.reset_order-order-requires
reset_order-order-requires c = taken_whole _ _ _ _ _ _ _ (sym (rw c.reset_pending.ensures at c.fault-number.ensures) ∙ c.if-number-ne0.false)

pub returns-then-reset : goal.returns-then-reset
unfolding submit
returns-then-reset c =
    let a = c.args in
    let r = sym (rw c.protocol-protocol.ensures at c.reset.ensures) ∙ c.if-reset.true in
    rw (c.answer.ensures, c.taking.ensures, c.reset_order-order.ensures, refused_late _ _ _ _ _ _ a.declared _ (sym (rw c.reset_pending.ensures at c.fault-number.ensures) ∙ c.if-number-ne0.false), none_for_reset _ _ _ a.declared r, rw c.protocol-protocol.ensures at (ne_eqb _ _ c.if-protocol-eq15.false), reset_whole a.command.now (length_of (block_size (is_later a.edition) a.block.now a.command.now) a.command.now a.declared) r)

pub lacking-lacking-requires : goal.lacking-lacking-requires
lacking-lacking-requires c = taken_whole _ _ _ _ _ _ _ (sym (rw c.reset_pending.ensures at c.fault-number.ensures) ∙ c.if-number-ne0.false)

pub read-sent-requires : goal.read-sent-requires
read-sent-requires c = taken_whole _ _ _ _ _ _ _ (sym (rw c.reset_pending.ensures at c.fault-number.ensures) ∙ c.if-number-ne0.false)

pub block_size-size-requires : goal.block_size-size-requires
block_size-size-requires c = let early = sym (rw c.reset_pending.ensures at c.fault-number.ensures) ∙ c.if-number-ne0.false in (taken_whole _ _ _ _ _ _ _ early, taken_lent _ _ _ _ _ _ _ early)

pub in_bytes-bytes-requires : goal.in_bytes-bytes-requires
in_bytes-bytes-requires c = (taken_whole _ _ _ _ _ _ _ (sym (rw c.reset_pending.ensures at c.fault-number.ensures) ∙ c.if-number-ne0.false), c.block_size-size.ensures.width, c.read-sent.ensures)

pub t_length-has_data-requires : goal.t_length-has_data-requires
t_length-has_data-requires c = taken_whole _ _ _ _ _ _ _ (sym (rw c.reset_pending.ensures at c.fault-number.ensures) ∙ c.if-number-ne0.false)

pub refuse-requires-then-late-ne0 : goal.refuse-requires-then-late-ne0
refuse-requires-then-late-ne0 c = λ _. (taken_sized _ _ _ _ _ _ _ (sym (rw c.reset_pending.ensures at c.fault-number.ensures) ∙ c.if-number-ne0.false)).1

pub returns-then-late-ne0 : goal.returns-then-late-ne0
unfolding submit
returns-then-late-ne0 c =
    let l = by_length _ _ _ _ _ _ c.args.declared _ (sym (rw c.reset_pending.ensures at c.fault-number.ensures) ∙ c.if-number-ne0.false) (rw c.protocol-protocol.ensures at (ne_eqb _ _ c.if-protocol-eq15.false)) (sym (rw c.protocol-protocol.ensures at c.reset.ensures) ∙ c.if-reset.false) (rw (c.t_length-has_data.ensures, c.lacking-lacking.ensures, c.in_bytes-bytes.ensures, c.block_size-size.ensures.size) at c.length_fault-late.ensures) in
    rw (c.without_order-then-late-ne0.ensures, c.refuse-then-late-ne0.ensures.status, c.refuse-then-late-ne0.ensures.sense, ← l, ne_eqb _ _ c.if-late-ne0.true)

pub command_order-order-requires : goal.command_order-order-requires
command_order-order-requires c =
    let early = sym (rw c.reset_pending.ensures at c.fault-number.ensures) ∙ c.if-number-ne0.false in
    let f = rw c.protocol-protocol.ensures at (ne_eqb _ _ c.if-protocol-eq15.false) in
    let r = sym (rw c.protocol-protocol.ensures at c.reset.ensures) ∙ c.if-reset.false in
    let l = late_is _ _ _ _ _ _ c.args.declared _ early f r (rw (c.t_length-has_data.ensures, c.lacking-lacking.ensures, c.in_bytes-bytes.ensures, c.block_size-size.ensures.size) at c.length_fault-late.ensures) in
    (taken_whole _ _ _ _ _ _ _ early, c.read-sent.ensures, rw (c.in_bytes-bytes.ensures, c.block_size-size.ensures.size) (length_fits _ _ _ _ _ _ c.args.declared _ early (sym l ∙ c.if-late-ne0.false) f c.ranges.declared.fits r))

pub returns : goal.returns
returns c =
    let a = c.args in
    let f = rw c.protocol-protocol.ensures at (ne_eqb _ _ c.if-protocol-eq15.false) in
    let r = sym (rw c.protocol-protocol.ensures at c.reset.ensures) ∙ c.if-reset.false in
    let e = sym (by_length _ _ _ _ _ _ a.declared _ (sym (rw c.reset_pending.ensures at c.fault-number.ensures) ∙ c.if-number-ne0.false) f r (rw (c.t_length-has_data.ensures, c.lacking-lacking.ensures, c.in_bytes-bytes.ensures, c.block_size-size.ensures.size) at c.length_fault-late.ensures)) ∙ c.if-late-ne0.false in
    rw (c.answer-2.ensures, c.holding.ensures, c.command_order-order.ensures, c.in_bytes-bytes.ensures, c.block_size-size.ensures.size) (sym (taken_command a.self a.command.now a.registers.now a.block.now a.declared a.edition a.form a.sense.now e f r))
