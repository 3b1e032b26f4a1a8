-- A drive asked for its health: SMART RETURN STATUS submitted to the record and completed, by the rules of both (RULES 9).
use Rattle.std.specs.Prelude.{cond, List, [], ◌∷◌, ℕ, eqb, get_or, replicate}
use Rattle.sense.specs.Sense.{descriptor}
use Rattle.passthrough.specs.declared.Pending.{Pending}
use Rattle.passthrough.specs.Submit as Submit
use Rattle.passthrough.specs.Submit.{submit}
use Rattle.passthrough.specs.Complete as Complete
use Rattle.passthrough.specs.Complete.{complete}
use Rattle.health_asked.specs.declared.Asked.{Asked}
use Rattle.health_asked.specs.declared.Said.{Said}
use Rattle.health_asked.specs.declared.Said.TheVariants.{Refused}
use Rattle.health_asked.specs.Said.{Values, values, heard_in}

-- ATA PASS-THROUGH (16), non-data, with CK_COND one: features DAh, LBA mid 4Fh, LBA high C2h, device A0h, command B0h.
abbrev pub return_status : List ℕ
return_status =
    0x85 ∷ 0x06 ∷ 0x20 ∷ 0x00 ∷ 0xDA ∷ 0x00 ∷ 0x00 ∷ 0x00 ∷ 0x00 ∷ 0x00 ∷ 0x4F ∷ 0x00 ∷ 0xC2 ∷ 0xA0 ∷ 0xB0 ∷ 0x00 ∷ []

-- The sense room that is lent: 22 bytes, all zero.
abbrev pub no_sense : List ℕ
no_sense = replicate 22 0x00

-- The record after a drive was asked, and what it said.
abbrev pub answer : Pending → Said → Asked
answer next said = record { next = next; said = said }

-- What comes of completing: the refusal, or what the sense data say.
abbrev pub completed_as : Complete.Outcome → Asked
completed_as o = answer o.completed.next (cond (eqb o.completed.ended.number 0) (heard_in o.sense) (Refused o.completed.ended.number))

unfoldable pub ended : Pending → List ℕ → Asked
ended pending registers = completed_as (complete pending registers descriptor no_sense)

-- What comes of submitting: the refusal, or what comes of completing with the same registers.
abbrev pub submitted_as : List ℕ → Submit.Outcome → Asked
submitted_as registers o =
    cond (eqb o.submitted.taken.number 0) (ended o.submitted.next registers)
    (answer o.submitted.next (Refused o.submitted.taken.number))

unfoldable pub asked : Pending → List ℕ → Asked
asked pending registers = submitted_as registers (submit pending return_status registers [] 0 1 descriptor no_sense)

-- The board's answer by the sense data that it wrote: byte 1 is the key, and with key 0Bh byte 11 the error register.
abbrev pub told : ℕ → ℕ → List ℕ → Values
told number status sense = values number status (get_or sense 1 0) (cond (eqb (get_or sense 1 0) 0x0B) (get_or sense 11 0) 0x00)

-- What the board gave for the command: at its refusal, or at its end.
abbrev pub given_at_end : Complete.Outcome → Values
given_at_end o = told o.completed.ended.number o.completed.ended.status o.sense

abbrev pub given_for : List ℕ → Submit.Outcome → Values
given_for registers o =
    cond (eqb o.submitted.taken.number 0) (given_at_end (complete o.submitted.next registers descriptor no_sense))
    (told o.submitted.taken.number o.submitted.taken.status o.sense)

unfoldable pub given : Pending → List ℕ → Values
given pending registers = given_for registers (submit pending return_status registers [] 0 1 descriptor no_sense)
