-- `same_eight`: by the numbers as they are, with the bits of spaces set, and with zero bytes as spaces.
use mathlib.Core.Path.{◌∙◌, ap, sym}
use Rattle.texts.specs.Text.{spaced}
use Rattle.texts.proofs.Text.{length_spaced}
use Rattle.identify.proofs.Bytes.{equal_of, not_equal}
use Rattle.drive.proofs.Number.{same_number, equal_number, bytes_spaced, spaces_set}
use Rattle.drive.proofs.eights.same_eight.Goals as goal

pub returns-then-x-y : goal.returns-then-x-y
returns-then-x-y c =
    let x = c.number-x.ensures in
    let y = c.number-y.ensures in
    let pre = c.requires in
    sym (equal_of (ap spaced (same_number x.each y.each (pre.0 ∙ sym pre.1) (sym x.value ∙ c.if-x-y.true ∙ y.value))))

pub returns-then-x-y-2 : goal.returns-then-x-y-2
returns-then-x-y-2 c =
    let x = c.number-x.ensures in
    let y = c.number-y.ensures in
    let pre = c.requires in
    sym (not_equal _ _ (λ e. c.if-x-y-2.true (rw (x.value, y.value) (spaces_set x.each y.each pre.0 pre.1 e))))

pub returns : goal.returns
returns c =
    let x = c.number-x.ensures in
    let y = c.number-y.ensures in
    let l = length_spaced c.args.a.now ∙ c.requires.0 ∙ sym (length_spaced c.args.b.now ∙ c.requires.1) in
    rw (c.spaced_number.ensures, c.spaced_number-2.ensures) (sym (equal_number (bytes_spaced x.each) (bytes_spaced y.each) l))
