-- `complete`: refused for a size, or where nothing is pending; or ended.
use mathlib.Core.Path.{refl, ◌∙◌, sym}
use mathlib.Core.Bool.{true, true≢false}
use borrow.Author.Tests.{eq-eqb, ne_eqb}
use Rattle.refusals.proofs.Table.{roomy_unless}
use Rattle.passthrough.specs.Complete.{refusal_of, complete}
use Rattle.passthrough.proofs.Pending.complete.Goals as goal

pub refuse-requires : goal.refuse-requires
refuse-requires c = roomy_unless true 0 (λ w. absurd (true≢false w)) refl

pub returns-then-wrong_size : goal.returns-then-wrong_size
unfolding complete refusal_of
returns-then-wrong_size c = rw (c.end.ensures, c.refuse.ensures.status, c.refuse.ensures.sense, ← c.wrong_size.ensures, c.if-wrong_size.true)

pub returns-then-self-eq0 : goal.returns-then-self-eq0
unfolding complete refusal_of
returns-then-self-eq0 c = rw (c.end-then-self-eq0.ensures, c.refuse-then-self-eq0.ensures.status, c.refuse-then-self-eq0.ensures.sense, sym c.wrong_size.ensures ∙ c.if-wrong_size.false, eq-eqb _ _ c.if-self-eq0.true)

pub returns : goal.returns
unfolding complete refusal_of
returns c = simp (c.end-2.ensures, c.tell-status.ensures.status, c.tell-status.ensures.sense, c.lost_protocol-lost_protocol.ensures, c.lost-lost.ensures, c.empty-empty.ensures, sym c.wrong_size.ensures ∙ c.if-wrong_size.false, ne_eqb _ _ c.if-self-eq0.false)
