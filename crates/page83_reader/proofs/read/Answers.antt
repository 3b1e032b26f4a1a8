-- `read`: by the form that is found.
use mathlib.Core.Path.{◌≡◌, refl, ◌∙◌, sym}
use mathlib.Core.Bool.{Bool, true, false, cond}
use mathlib.Core.List.{List}
use Prim.Native.Nat.{ℕ}
use native.Mathlib.Omega.{arith}
use lib.Dec.{eqb}
use lib.ListN.{take, drop}
use Rattle.page83_reader.specs.Reader.{names_drive, tells_texts, in_sixty, refused, told, read}
use Rattle.page83_reader.proofs.read.Goals as goal

-- What the form says of a page that names a drive or tells texts.
abbrev Form : Bool → Bool → ℕ → Type 0
Form names tells form = form ≡ cond names 1 (cond tells 2 0)

no_form : (names tells : Bool) {form : ℕ} → Form names tells form → form ≡ 0 → (names ≡ false) × (tells ≡ false)
no_form true tells e n = absurd (omega (arith, e, n))
no_form false true e n = absurd (omega (arith, e, n))
no_form false false e n = (refl, refl)

told_by : (names tells : Bool) {form : ℕ} (a b c d : List ℕ) → Form names tells form → (form ≡ 0 → ⊥) → told form (cond (eqb form 1) a b) (cond (eqb form 1) c d) ≡ cond names (told 1 a c) (cond tells (told 2 b d) refused)
told_by true tells a b c d e n = rw e
told_by false true a b c d e n = rw e
told_by false false a b c d e n = absurd (n e)

pub returns-then-not-headed : goal.returns-then-not-headed
unfolding read
returns-then-not-headed c = rw (sym c.headed.ensures ∙ c.if-not-headed.true, c.refused.ensures)

pub returns-then-form-eq0 : goal.returns-then-form-eq0
unfolding read
returns-then-form-eq0 c =
    let page = c.args.page.now in
    let none = no_form (names_drive page) (tells_texts page) c.form_of-form.ensures c.if-form-eq0.true in
    rw (sym c.headed.ensures ∙ c.if-not-headed.false, none.0, none.1, c.refused-then-form-eq0.ensures)

pub returns : goal.returns
unfolding read
returns c =
    let page = c.args.page.now in
    rw (sym c.headed.ensures ∙ c.if-not-headed.false, ← told_by (names_drive page) (tells_texts page) (in_sixty (take 8 (drop 8 page))) (in_sixty (take 60 (drop 16 page))) (drop 16 page) (drop 76 page) c.form_of-form.ensures c.if-form-eq0.false, ← c.name_of.ensures, ← c.behind_name.ensures) c.told.ensures
