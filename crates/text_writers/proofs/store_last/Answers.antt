-- `store_last`: two words, and nothing follows them.
use mathlib.Core.Path.{◌≡◌}
use native.Mathlib.Omega.{arith}
use mathlib.Core.List.{[]}
use Prim.Native.Nat.{◌+◌}
use lib.ListN.{drop, drop_of_length-le}
use Rattle.texts.specs.Text.{turned, space, spaced}
use Rattle.texts.proofs.Text.{length_text}
use Rattle.text_writers.proofs.Laws.{two_words}
use Rattle.text_writers.proofs.store_last.Goals as goal

pub returns : goal.returns
returns c =
    let text = c.args.text.now in
    let end : drop (c.args.i + 4) (spaced (turned text)) ≡ [] = drop_of_length-le (spaced (turned text)) {i = c.args.i + 4} (omega (arith, length_text space text, c.requires.1.0)) in
    rw (two_words space text c.args.i c.requires.1.1 (omega (arith, c.requires.1.0)), end)
    (rw (c.shown-a.ensures, c.shown-b.ensures, c.shown-c.ensures, c.shown-d.ensures) at c.store_four.ensures)
