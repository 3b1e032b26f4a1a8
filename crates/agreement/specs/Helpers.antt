-- No rules: names for contracts of functions below the entries.
use Rattle.std.specs.Prelude.{Bool, ◌&&◌, List, ℕ, ◌+◌, eqb, length, get_or, drop}
use Rattle.identify.specs.Bytes.{equal}
use Rattle.agreement.specs.declared.Held.{Held}
use Rattle.agreement.specs.Agreed.{agreed}

-- A piece stands in a run whole, at a place.
abbrev pub whole : List ℕ → ℕ → List ℕ → Bool
whole run at piece = eqb (agreed (drop at run) piece) (length piece)

-- Four bytes stand in a run at a place.
abbrev pub four : List ℕ → ℕ → ℕ → ℕ → ℕ → ℕ → Bool
four run at a b c d =
    ((eqb (get_or run at 0) a && eqb (get_or run (at + 1) 0) b) && eqb (get_or run (at + 2) 0) c) && eqb (get_or run (at + 3) 0) d

-- A run beside a page.
unfoldable pub beside : List ℕ → List ℕ → Held
beside bytes page = record { same = equal bytes page; place = agreed bytes page }
