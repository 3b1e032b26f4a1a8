-- How a page is served: each function of a page ends by one of these.
use mathlib.Core.Path.{◌≡◌, refl, ◌∙◌, sym, ap}
use mathlib.Core.List.{List, ◌++◌}
use Prim.Native.Nat.{ℕ, ◌<◌, ◌≤◌, min}
use native.Mathlib.Omega.{arith}
use lib.ListN.{length, take, drop}
use lib.Seq.{length-take-le, take_all}
use Rattle.room.specs.Room.{Wrote}
use Rattle.room.proofs.Laws.{written_front, cut}
use Rattle.inquiry_pages.specs.declared.Answer.{Answer}
use Rattle.inquiry_pages.specs.Helpers.{no_room, filled, Answered}

-- n is what is to be written of a page of this size.
pub to_write : {size n : ℕ} (page : List ℕ) (allocation : ℕ) → n ≡ min size allocation → length page ≡ size → n ≡ min (length page) allocation
to_write page allocation e l = e ∙ ap (λ (k : ℕ). min k allocation) (sym l)

-- The first n bytes of a room, lent to a writer.
pub lent : (n : ℕ) (room : List ℕ) → n ≤ length room → n ≡ length (take n room)
lent n room h = sym (length-take-le n room h)

module _ {page before : List ℕ} {allocation n : ℕ} (e : n ≡ min (length page) allocation) where
  pub too_little : {answer : Answer} → answer ≡ no_room → length before < n → Answered page allocation before answer before
  too_little z h = record { lacks = λ l. (z, refl); holds = λ l. absurd (omega (arith, e, h, l)) }

  pub served_cut : {answer : Answer} {o : List ℕ} → answer ≡ filled n → Wrote (take n before) 0 page o → n ≤ length before → Answered page allocation before answer (o ++ drop n before)
  served_cut z w h =
      record {
        lacks = λ l. absurd (omega (arith, e, h, l));
        holds = λ l. (z ∙ ap filled e, cut n page before w (omega (arith, e)) h ∙ ap (λ (k : ℕ). take k page ++ drop k before) e);
      }

-- A page that nothing cuts.
pub served_whole : {page before after : List ℕ} {allocation n : ℕ} {answer : Answer} → answer ≡ filled n → n ≡ length page → n ≤ allocation → n ≤ length before → Wrote before 0 page after → Answered page allocation before answer after
served_whole {page} {before} {after} {allocation} {n} z e a h w =
    let m : n ≡ min (length page) allocation = omega (arith, e, a) in
    let all : after ≡ take n page ++ drop n before = w.leaves ∙ written_front before page ∙ rw (e, take_all (length before) page (omega (arith, e, h)), take_all (length page) page (omega arith)) refl in
    record {
      lacks = λ l. absurd (omega (arith, m, h, l));
      holds = λ l. (z ∙ ap filled m, all ∙ ap (λ (k : ℕ). take k page ++ drop k before) m);
    }
