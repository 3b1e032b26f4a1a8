-- A stream that arrives as runs, and what an intake comes to after them (RULES 12).
use Rattle.std.specs.Prelude.{ℕ, ◌+◌, List, [], ◌∷◌, ◌++◌}
use Rattle.intake.specs.declared.Intake.{Intake}
use Rattle.intake.specs.Intake.{empty, taken}

-- An intake with its store, and how many bytes it has used in all.
pub record Held : Type 0 where
  pub intake : Intake
  pub store : List ℕ
  pub used : ℕ

-- What it is before the first run: empty, over a store that may hold any bytes.
abbrev pub begin : List ℕ → Held
begin store = record { intake = empty; store = store; used = 0 }

-- What one run makes of it.
abbrev pub step : Held → List ℕ → Held
step held run =
    let o = taken held.intake held.store run in
    record { intake = o.took.next; store = o.store; used = held.used + o.took.used }

-- What runs make of it one after another, and none leave as it is.
unfoldable pub runs : Held → List (List ℕ) → Held
runs held [] = held
runs held (run ∷ rest) = runs (step held run) rest

-- The stream that the runs divide.
unfoldable pub stream : List (List ℕ) → List ℕ
stream [] = []
stream (run ∷ rest) = run ++ stream rest
