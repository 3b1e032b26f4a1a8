-- What the loop over the parts of a line goes over.
use Rattle.std.proofs.Common.{◌≡◌, ℕ, Bool, false, List, Bor}
use Rattle.std.specs.Fn.{CalledAt}
use Rattle.std.specs.Slice.Iter.{split_rest, split_done, split_callee, split_steps}
use Rattle.std.proofs.lemmas.Iterator.{YieldsList}
use Rattle.std.proofs.lemmas.Iterator.Consumers.{YieldsList-at}
use Rattle.std.proofs.lemmas.Iterator.Splits.{YieldsList-from_slice_split}
use denote.Param.Members.{Mut}
use Rattle.order_words.specs.Words.{is_space, parts}

-- The parts of a line, which spaces divide.
pub parts_road : {F : Type 0} (f : F) (divides : Mut F (Bor ℕ × Unit {0}) Bool) (line : List ℕ) {parts-of start : _} → start ≡ parts-of → split_rest parts-of ≡ line → split_done parts-of ≡ false → split_callee parts-of ≡ f → ((x : ℕ) (b : Bool) (q : F) → CalledAt divides f x b q → (q ≡ f) × (b ≡ is_space x)) → YieldsList (split_steps divides) (λ x. x.now) start (parts line)
parts_road f divides line s rest done closure space =
    YieldsList-at s (YieldsList-from_slice_split divides is_space line rest done closure space)
