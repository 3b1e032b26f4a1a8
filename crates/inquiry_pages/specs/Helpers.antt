-- No rules: names for contracts of functions below the entry.
use Rattle.std.specs.Prelude.{◌≡◌, List, ◌++◌, ℕ, ◌<◌, ◌≤◌, min, length, take, drop}
use Rattle.refusals.specs.Refusal.{good, no_status}
use Rattle.inquiry_pages.specs.declared.Answer.{Answer}

-- The two answers to a page: the room does not hold what is to be written of it, and n bytes of it stand there.
abbrev pub no_room : Answer
no_room = record { number = 8; status = no_status; shown = 1; count = 0 }

abbrev pub filled : ℕ → Answer
filled n = record { number = 0; status = good; shown = 1; count = n }

-- A page that was served into a room, or not, by whether the room holds what the allocation length lets through.
pub record Answered (page : List ℕ) (allocation : ℕ) (before : List ℕ) (answer : Answer) (after : List ℕ) : Type 0 where
  pub lacks : length before < min (length page) allocation → (answer ≡ no_room) × (after ≡ before)
  pub holds : min (length page) allocation ≤ length before
      → (answer ≡ filled (min (length page) allocation))
      × (after ≡ take (min (length page) allocation) page ++ drop (min (length page) allocation) before)
