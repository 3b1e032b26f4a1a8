-- `sas_place`: the head, then an address that is the field's own; or none.
use mathlib.Core.Path.{refl, sym, ◌∙◌}
use mathlib.Core.List.{List, [], ◌∷◌}
use Prim.Native.Nat.{ℕ, ◌+◌}
use native.Mathlib.Omega.{arith}
use lib.ListN.{drop, replicate, length-drop}
use Rattle.port.specs.Ports.{sas_part}
use Rattle.agreement.proofs.Laws.{reaches_within, differs_first, then_second, agreed_none, agreed_front}
use Rattle.checker_drive.specs.Ports.{address_in}
use Rattle.checker_drive.proofs.sas_place.Goals as goal

-- What the descriptor starts with.
abbrev head : List ℕ
head = 0x61 ∷ 0x93 ∷ 0x00 ∷ 0x08 ∷ []

pub returns-then-head-at : goal.returns-then-head-at
unfolding sas_part
returns-then-head-at c =
    let a = c.args in
    rw (sym c.sas_chosen.ensures ∙ c.if-sas_chosen.true)
    (differs_first a.bytes.now head (address_in a.at a.bytes.now) a.at (a.at + 4) refl c.bytes-head.ensures c.if-head-at.true)

pub returns-then-sas_chosen : goal.returns-then-sas_chosen
unfolding sas_part
returns-then-sas_chosen c =
    let run = c.args.bytes.now in
    let at = c.args.at in
    let e = c.bytes-head.ensures in
    let whole = reaches_within run head at e c.requires.0 in
    let own = agreed_front 8 (drop (at + 4) run) (replicate 8 0x00) in
    rw (sym c.sas_chosen.ensures ∙ c.if-sas_chosen.true)
    (then_second run head (address_in at run) at (at + 4) refl e c.if-head-at.false (omega (arith, c.lesser.ensures, own, length-drop (at + 4) run, whole, c.if-head-at.false)))

pub returns : goal.returns
unfolding sas_part
returns c =
    let a = c.args in
    rw (sym c.sas_chosen.ensures ∙ c.if-sas_chosen.false) (omega (arith, agreed_none (drop a.at a.bytes.now)))
