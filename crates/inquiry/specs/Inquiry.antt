-- The INQUIRY entry: what comes of what is asked (RULES 4).
use Rattle.std.specs.Prelude.{cond, List, ◌++◌, ℕ, min, eqb, length, take, drop}
use Rattle.refusals.specs.Refusal.{row_of, refused_sense, good}
use Rattle.inquiry_fields.specs.Fields.{allocation}
use Rattle.inquiry_asked.specs.Request.{Request, is_packet, passes_through}
use Rattle.inquiry_asked.specs.Asked.{page, to_write}
use Rattle.inquiry_checks.specs.Checks.{refusal_of}
use Rattle.inquiry_pages.specs.declared.Answer.{Answer}

-- Everything that comes back, and every lent byte that can change.
pub record Outcome : Type 0 where
  pub answer : Answer
  pub room : List ℕ
  pub sense : List ℕ

abbrev pub outcome : Answer → List ℕ → List ℕ → Outcome
outcome answer room sense = record { answer = answer; room = room; sense = sense }

-- A refusal shows an empty part of the room, has its row's status and sense bytes, in the form asked for, and changes nothing else.
abbrev pub refused : ℕ → ℕ → List ℕ → List ℕ → Outcome
refused form number room sense =
    outcome (record { number = number; status = (row_of number).status; shown = 1; count = 0 }) room (refused_sense form number sense)

-- A packet drive's own reply is shown, as much of it as the allocation length allows; the room stays as it was.
abbrev pub passed : Request → List ℕ → List ℕ → Outcome
passed q room sense =
    outcome (record { number = 0; status = good; shown = 0; count = min (length q.reply) (allocation q.command) }) room sense

-- The page's first n bytes stand in the room, its length field as in the whole page, and the room past n is as it was.
abbrev pub served : Request → List ℕ → List ℕ → Outcome
served q room sense =
    outcome (record { number = 0; status = good; shown = 1; count = to_write q })
    (take (to_write q) (page q) ++ drop (to_write q) room)
    sense

unfoldable pub inquiry : Request → ℕ → List ℕ → List ℕ → Outcome
inquiry q form room sense =
    cond (eqb (refusal_of q (length room) (length sense)) 0)
    (cond (passes_through (is_packet q) q.command) (passed q room sense) (served q room sense))
    (refused form (refusal_of q (length room) (length sense)) room sense)

-- The part that an answer shows: 0 of the drive's reply, any other number of the room.
abbrev pub part : List ℕ → List ℕ → ℕ → ℕ → List ℕ
part reply room shown count = cond (eqb shown 0) (take count reply) (take count room)
