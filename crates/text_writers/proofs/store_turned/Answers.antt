-- `store_turned`: four words at a time, and the text ends behind the last four.
use mathlib.Core.Path.{◌≡◌, sym, ap, ◌∙◌}
use mathlib.Core.List.{List, ◌++◌}
use Prim.Native.Nat.{ℕ, ◌+◌}
use native.Mathlib.Omega.{arith}
use lib.ListN.{length, take, drop, take-append-drop, length-drop}
use lib.Seq.{drop-drop, length-take-le}
use Rattle.room.proofs.Laws.{turn, done}
use Rattle.texts.specs.Text.{turned}
use Rattle.texts.proofs.Text.{length_turned, shown_as_it_is}
use Rattle.text_writers.proofs.store_turned.Goals as goal

pub loop-i-preserved : goal.loop-i-preserved
loop-i-preserved c =
    let l = c.loop-i in
    let s = turned c.args.text.now in
    let n : length (take 8 (drop l.i s)) ≡ 8 = length-take-le 8 (drop l.i s) (rw length-drop (omega (arith, c.requires.1, length_turned c.args.text.now))) in (
      turn l.invariant.0 (rw shown_as_it_is at c.store_words.ensures)
          (sym (take-append-drop 8 (drop l.i s)) ∙ ap (λ (t : List ℕ). take 8 (drop l.i s) ++ t) (drop-drop 8 l.i s)) (ap (λ (k : ℕ). l.i + k) (sym n)),
      omega arith,
    )

pub returns : goal.returns
returns c = done c.loop-i.invariant.0 (omega (arith, length_turned c.args.text.now))
