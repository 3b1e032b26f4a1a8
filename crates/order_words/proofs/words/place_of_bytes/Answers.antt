-- `place_of_bytes`: the place that std's `position` finds.
use Rattle.std.proofs.Common.{rules, tests}
use Rattle.std.proofs.lemmas.Iterator.{YieldsList-from_slice}
use Rattle.order_words.proofs.Places.{place_found}
use Rattle.order_words.proofs.words.place_of_bytes.Goals as goal

pub returns : goal.returns
returns c = place_found _ _ c.args.word.now c.args.list.now c.position.result c.position.ensures.ran (YieldsList-from_slice c.args.list.now c.iter.ensures.rest) (λ x b q k. search (rules, tests))
