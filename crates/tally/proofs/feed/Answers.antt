-- `feed`: refused, or counted in each grouping, whose counts have room for one more.
use mathlib.Core.Path.{◌≡◌, sym, ap, ◌∙◌}
use mathlib.Core.Bool.{not}
use Prim.Native.Nat.{◌+◌, ◌-◌}
use native.Mathlib.Nat.{add-zero}
use native.Mathlib.Omega.{arith}
use borrow.Author.Tests.{ne_eqb}
use Rattle.rules.specs.Bits.{flag}
use Rattle.checksum.specs.Checksum.{sum_of}
use Rattle.identify.specs.Names.{carries_name}
use Rattle.classes.proofs.Masked.{mode_within, version_within}
use Rattle.tally.specs.declared.Census.{Census}
use Rattle.tally.specs.Census.{census, feed}
use Rattle.tally.proofs.Laws.{at_most, accepted}
use Rattle.tally.proofs.feed.Goals as goal
use Rattle.tally.proofs.feed.Goals.{then-carries_name, else-carries_name}

pub overflow_add-census : goal.overflow_add-census
overflow_add-census c =
    let a = c.args in
    let o = (accepted a.census a.block.now c.refusal-number.ensures c.if-number-eq0.true).1 in
    omega (arith, o.not_full)

pub carries_name-requires : goal.carries_name-requires
carries_name-requires c =
    let a = c.args in
    (accepted a.census a.block.now c.refusal-number.ensures c.if-number-eq0.true).0

pub overflow_add-census-then-carries_name : goal.overflow_add-census-then-carries_name
overflow_add-census-then-carries_name c =
    let a = c.args in
    let o = (accepted a.census a.block.now c.refusal-number.ensures c.if-number-eq0.true).1 in
    omega (arith, o.names, o.not_full)

pub overflow_add-census-else-carries_name : goal.overflow_add-census-else-carries_name
overflow_add-census-else-carries_name c =
    let a = c.args in
    let o = (accepted a.census a.block.now c.refusal-number.ensures c.if-number-eq0.true).1 in
    omega (arith, o.names, o.not_full)

pub bounds-census-mode : goal.bounds-census-mode
bounds-census-mode c = omega (arith, c.ultra_dma-mode.ensures, mode_within c.args.block.now)

pub overflow_add-census-then-number-eq0 : goal.overflow_add-census-then-number-eq0
overflow_add-census-then-number-eq0 c =
    let a = c.args in
    let o = (accepted a.census a.block.now c.refusal-number.ensures c.if-number-eq0.true).1 in
    let kept : sum_of c.if-carries_name.census.udma ≡ sum_of a.census.udma = elim c.if-carries_name.branch [ then-carries_name w ↦ ap (λ (k : Census). sum_of k.udma) w.census-is | else-carries_name w ↦ ap (λ (k : Census). sum_of k.udma) w.census-is ] in
    omega (arith, at_most c.if-carries_name.census.udma c.ultra_dma-mode.result, kept, o.modes, o.not_full)

pub bounds-census-mode-then-number-eq0 : goal.bounds-census-mode-then-number-eq0
bounds-census-mode-then-number-eq0 c = omega (arith, c.ultra_dma-mode.ensures, mode_within c.args.block.now)

pub overflow_sub-version : goal.overflow_sub-version
overflow_sub-version c = omega (arith, c.major_version.ensures, (version_within c.args.block.now).0)

pub bounds-census-version : goal.bounds-census-version
bounds-census-version c = omega (arith, c.major_version.ensures, version_within c.args.block.now)

pub overflow_add-census-then-number-eq0-2 : goal.overflow_add-census-then-number-eq0-2
overflow_add-census-then-number-eq0-2 c =
    let a = c.args in
    let o = (accepted a.census a.block.now c.refusal-number.ensures c.if-number-eq0.true).1 in
    let kept : sum_of c.if-carries_name.census.version ≡ sum_of a.census.version = elim c.if-carries_name.branch [ then-carries_name w ↦ ap (λ (k : Census). sum_of k.version) w.census-is | else-carries_name w ↦ ap (λ (k : Census). sum_of k.version) w.census-is ] in
    omega (arith, at_most c.if-carries_name.census.version (c.major_version.result - 1), kept, o.versions, o.not_full)

pub bounds-census-version-then-number-eq0 : goal.bounds-census-version-then-number-eq0
bounds-census-version-then-number-eq0 c = omega (arith, c.major_version.ensures, version_within c.args.block.now)

pub returns-after-carries_name : goal.returns-after-carries_name
unfolding feed
returns-after-carries_name c =
    let a = c.args in
    let t = a.census in
    let block = a.block.now in
    let named = carries_name block in
    let form : c.if-carries_name.census ≡ census (t.blocks + 1) (t.named + flag named) (t.unnamed + flag (not named)) t.udma t.version =
    elim c.if-carries_name.branch [ then-carries_name w ↦ rw (sym c.carries_name.ensures ∙ w.if-carries_name.true, add-zero) w.census-is | else-carries_name w ↦ rw (sym c.carries_name.ensures ∙ w.if-carries_name.false, add-zero) w.census-is ] in
    rw (← c.refusal-number.ensures, c.if-number-eq0.true, form, c.ultra_dma-mode.ensures, c.major_version.ensures)

pub returns-else-number-eq0 : goal.returns-else-number-eq0
unfolding feed
returns-else-number-eq0 c = rw (← c.refusal-number.ensures, ne_eqb _ _ c.if-number-eq0.false)
