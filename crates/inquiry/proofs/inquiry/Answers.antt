-- `inquiry`: the checks, then the drive's own reply or the page.
use mathlib.Core.Path.{◌≡◌, ◌∙◌, sym}
use mathlib.Core.Bool.{Bool, false}
use mathlib.Core.List.{List}
use Prim.Native.Nat.{ℕ}
use lib.ListN.{length}
use borrow.Author.Tests.{ne_eqb}
use Rattle.packet.specs.Packet.{packet_drive}
use Rattle.inquiry_asked.specs.Request.{Request, request, passes_through}
use Rattle.inquiry_checks.specs.Helpers.{early_refusal}
use Rattle.inquiry.specs.Inquiry.{inquiry}
use Rattle.inquiry_checks.proofs.Laws.{Granted, granted, refused_early, refused_late, roomy}
use Rattle.inquiry.proofs.Laws.{comes_of}
use Rattle.inquiry.proofs.inquiry.Goals as goal

-- What is known of what is asked for once none of the early checks has applied.
here : (q : Request) (sense : ℕ) {number : ℕ} → number ≡ early_refusal q sense → number ≡ 0 → Granted q
here q sense e z = granted q sense (sym e ∙ z)

-- The page is served here.
served_here : (command signature : List ℕ) {packet through : Bool} → packet ≡ packet_drive signature → through ≡ passes_through packet command → through ≡ false → passes_through (packet_drive signature) command ≡ false
served_here command signature p t f = rw (← p, ← t) f

pub refuse-requires : goal.refuse-requires
refuse-requires c = roomy _ _ c.fault-number.ensures

pub returns-then-number-ne0 : goal.returns-then-number-ne0
unfolding inquiry
returns-then-number-ne0 c =
    let a = c.args in
    let q = request a.command.now a.block.now a.signature.now a.texts.now a.reply.now a.ports a.address.now in
    rw (refused_early q (length a.room.now) (length a.sense.now) (λ z. c.if-number-ne0.true (c.fault-number.ensures ∙ z)), ← c.fault-number.ensures, ne_eqb _ _ c.if-number-ne0.true, c.refuse.ensures.answer, c.refuse.ensures.sense)

pub allocation-allocation-requires : goal.allocation-allocation-requires
allocation-allocation-requires c = (here _ _ c.fault-number.ensures c.if-number-ne0.false).whole

pub passes_through-requires : goal.passes_through-requires
passes_through-requires c = (here _ _ c.fault-number.ensures c.if-number-ne0.false).whole

pub returns-then-passes_through : goal.returns-then-passes_through
unfolding inquiry
returns-then-passes_through c =
    let a = c.args in
    let q = request a.command.now a.block.now a.signature.now a.texts.now a.reply.now a.ports a.address.now in
    let late = refused_late q (length a.room.now) (length a.sense.now) (sym c.fault-number.ensures ∙ c.if-number-ne0.false) in
    rw (late, ← c.packet_drive-packet.ensures, sym c.passes_through.ensures ∙ c.if-passes_through.true, ← c.allocation-allocation.ensures, ← c.lesser.ensures)

pub serve_page-requires : goal.serve_page-requires
serve_page-requires c =
    (here _ _ c.fault-number.ensures c.if-number-ne0.false).servable (served_here c.args.command.now c.args.signature.now c.packet_drive-packet.ensures c.passes_through.ensures c.if-passes_through.false)

pub returns : goal.returns
returns c =
    let a = c.args in
    let q = request a.command.now a.block.now a.signature.now a.texts.now a.reply.now a.ports a.address.now in
    let late = refused_late q (length a.room.now) (length a.sense.now) (sym c.fault-number.ensures ∙ c.if-number-ne0.false) in
    let through = served_here a.command.now a.signature.now c.packet_drive-packet.ensures c.passes_through.ensures c.if-passes_through.false in
    comes_of q a.form _ (rw c.allocation-allocation.ensures at c.serve_page.ensures) through late
