-- `write`: the checks in order, then the page of its form, and the ports.
use mathlib.Core.Path.{◌∙◌, sym, ap}
use Prim.Native.Nat.{ℕ, ◌+◌}
use borrow.Author.Tests.{eq-eqb, ne_eqb}
use Rattle.page83.specs.Page83.{refusal_of, write}
use Rattle.page83.proofs.Laws.{page_size_is, grown_name, grown_texts, too_little, enough}
use Rattle.page83.proofs.write.Goals as goal

pub returns-then-block-ne512 : goal.returns-then-block-ne512
unfolding refusal_of write
returns-then-block-ne512 c = simp (c.wrote.ensures, ne_eqb _ _ c.if-block-ne512.true)

pub returns-then-wrong_address : goal.returns-then-wrong_address
unfolding refusal_of write
returns-then-wrong_address c = rw (c.wrote-then-wrong_address.ensures, eq-eqb _ _ c.if-block-ne512.false, sym c.wrong_address.ensures ∙ c.if-wrong_address.true)

pub returns-then-damaged : goal.returns-then-damaged
unfolding refusal_of write
returns-then-damaged c = rw (c.wrote-then-damaged.ensures, eq-eqb _ _ c.if-block-ne512.false, sym c.wrong_address.ensures ∙ c.if-wrong_address.false, sym c.damaged.ensures ∙ c.if-damaged.true)

pub returns-then-wrong_port : goal.returns-then-wrong_port
unfolding refusal_of write
returns-then-wrong_port c = rw (c.wrote-then-wrong_port.ensures, eq-eqb _ _ c.if-block-ne512.false, sym c.wrong_address.ensures ∙ c.if-wrong_address.false, sym c.damaged.ensures ∙ c.if-damaged.false, sym c.wrong_port.ensures ∙ c.if-wrong_port.true)

pub returns-then-room-size : goal.returns-then-room-size
returns-then-room-size c =
    let a = c.args in
    let form = sym c.carries_name.ensures ∙ c.if-carries_name.true in
    let grown = c.size-grown.ensures.value in
    let port = sym c.wrong_port.ensures ∙ c.if-wrong_port.false in
    let passes = sym c.damaged.ensures ∙ c.if-damaged.false in
    let right = sym c.wrong_address.ensures ∙ c.if-wrong_address.false in
    let whole = c.if-block-ne512.false in
    let size = rw (form, ← grown) at (page_size_is a.block.now a.ports a.address.now whole right) in
    rw c.wrote-then-room-size.ensures (sym (too_little a.block.now a.ports a.address.now a.room.now whole right passes port size c.if-room-size.true))

pub returns-then-carries_name : goal.returns-then-carries_name
returns-then-carries_name c =
    let a = c.args in
    let form = sym c.carries_name.ensures ∙ c.if-carries_name.true in
    let grown = c.size-grown.ensures.value in
    let port = sym c.wrong_port.ensures ∙ c.if-wrong_port.false in
    let passes = sym c.damaged.ensures ∙ c.if-damaged.false in
    let right = sym c.wrong_address.ensures ∙ c.if-wrong_address.false in
    let whole = c.if-block-ne512.false in
    let size = rw (form, ← grown) at (page_size_is a.block.now a.ports a.address.now whole right) in
    let page = grown_name a.block.now a.ports a.address.now whole right form (ap (λ (n : ℕ). 12 + n) grown) c.store_name.ensures c.store_ports.ensures in
    rw (c.wrote-then-carries_name.ensures, page.leaves) (sym (enough a.block.now a.ports a.address.now a.room.now whole right passes port size c.if-room-size.false))

pub returns-then-room-size-2 : goal.returns-then-room-size-2
returns-then-room-size-2 c =
    let a = c.args in
    let form = sym c.carries_name.ensures ∙ c.if-carries_name.false in
    let grown = c.size-grown.ensures.value in
    let port = sym c.wrong_port.ensures ∙ c.if-wrong_port.false in
    let passes = sym c.damaged.ensures ∙ c.if-damaged.false in
    let right = sym c.wrong_address.ensures ∙ c.if-wrong_address.false in
    let whole = c.if-block-ne512.false in
    let size = rw (form, ← grown) at (page_size_is a.block.now a.ports a.address.now whole right) in
    rw c.wrote-then-room-size-2.ensures (sym (too_little a.block.now a.ports a.address.now a.room.now whole right passes port size c.if-room-size-2.true))

pub returns : goal.returns
returns c =
    let a = c.args in
    let form = sym c.carries_name.ensures ∙ c.if-carries_name.false in
    let grown = c.size-grown.ensures.value in
    let port = sym c.wrong_port.ensures ∙ c.if-wrong_port.false in
    let passes = sym c.damaged.ensures ∙ c.if-damaged.false in
    let right = sym c.wrong_address.ensures ∙ c.if-wrong_address.false in
    let whole = c.if-block-ne512.false in
    let size = rw (form, ← grown) at (page_size_is a.block.now a.ports a.address.now whole right) in
    let page = grown_texts a.block.now a.ports a.address.now whole right form (ap (λ (n : ℕ). 72 + n) grown) c.store_texts.ensures c.store_ports-2.ensures in
    rw (c.wrote-2.ensures, page.leaves) (sym (enough a.block.now a.ports a.address.now a.room.now whole right passes port size c.if-room-size-2.false))
