-- `same_drive`: whether the second block carries a name settles what is left to compare.
use mathlib.Core.Path.{◌∙◌, ap, sym}
use mathlib.Core.Bool.{not, and-true, and-false}
use Rattle.identify.specs.Names.{says_named}
use Rattle.drive.proofs.Drive.{other_named, other_nameless, word_says}
use Rattle.drive.proofs.same_drive.Goals as goal

pub returns-then-same_name : goal.returns-then-same_name
returns-then-same_name c =
    let named = sym c.requires.2 ∙ c.if-named.true in
    let same = sym c.same_name.ensures ∙ c.if-same_name.true in
    c.says_named.ensures ∙ ap says_named c.word.ensures
    ∙ sym (other_named c.args.a.now c.args.b.now named ∙ rw (same, and-true) (word_says c.args.a.now c.args.b.now named same))

pub returns-then-named : goal.returns-then-named
returns-then-named c =
    sym (other_named _ _ (sym c.requires.2 ∙ c.if-named.true) ∙ rw (sym c.same_name.ensures ∙ c.if-same_name.false, and-false))

pub returns-then-same_texts : goal.returns-then-same_texts
returns-then-same_texts c =
    ap not c.carries_name.ensures
    ∙ sym (other_nameless _ _ (sym c.requires.2 ∙ c.if-named.false) ∙ rw (sym c.same_texts.ensures ∙ c.if-same_texts.true, and-true))

pub returns : goal.returns
returns c =
    sym (other_nameless _ _ (sym c.requires.2 ∙ c.if-named.false) ∙ rw (sym c.same_texts.ensures ∙ c.if-same_texts.false, and-false))
