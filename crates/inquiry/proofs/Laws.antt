-- The INQUIRY entry past its checks.
use mathlib.Core.Path.{◌≡◌, refl}
use mathlib.Core.Bool.{Bool, true, false, cond, not, ◌&&◌}
use mathlib.Core.List.{List}
use Prim.Native.Nat.{ℕ}
use lib.Dec.{ltb}
use lib.ListN.{length}
use borrow.Author.Tests.{ltb-true, ltb-false}
use Rattle.refusals.specs.Refusal.{row_of, refused_sense}
use Rattle.inquiry_fields.specs.Fields.{allocation}
use Rattle.inquiry_asked.specs.Request.{Request, is_packet, passes_through}
use Rattle.inquiry_asked.specs.Asked.{page, to_write}
use Rattle.inquiry_checks.specs.Checks.{refusal_of}
use Rattle.inquiry_pages.specs.declared.Answer.{Answer}
use Rattle.inquiry_pages.specs.Helpers.{Answered}
use Rattle.inquiry.specs.Inquiry.{outcome, inquiry}

-- What comes of a request whose page was served.
pub comes_of : (q : Request) (form : ℕ) {room after : List ℕ} (sense : List ℕ) {answer : Answer} → Answered (page q) (allocation q.command) room answer after → passes_through (is_packet q) q.command ≡ false → refusal_of q (length room) (length sense) ≡ cond (not (passes_through (is_packet q) q.command) && ltb (length room) (to_write q)) 8 0 → outcome answer after sense ≡ inquiry q form room sense
unfolding inquiry row_of refused_sense
comes_of q form {room} {after} sense {answer} h here late = by (ltb (length room) (to_write q)) refl
  where
    by : (t : Bool) → ltb (length room) (to_write q) ≡ t → outcome answer after sense ≡ inquiry q form room sense
    by true e =
        let l = h.lacks (ltb-true _ _ e) in
        rw (l.0, l.1, late, here, e)
    by false e =
        let l = h.holds (ltb-false _ _ e) in
        rw (l.0, l.1, late, here, e)
