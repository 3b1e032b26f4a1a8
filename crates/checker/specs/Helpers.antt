-- No rules: names for contracts of functions below the entry.
use Rattle.std.specs.Prelude.{true, cond, List, ℕ}
use Rattle.capture.specs.Capture.{field, stands, content}
use Rattle.agreement.specs.declared.Held.{Held}
use Rattle.agreement.specs.Helpers.{beside}
use Rattle.checker.specs.Check.{expected}

-- A field at the front of the rest, beside what it is to be; one that is not there is no other.
unfoldable pub front_beside : List ℕ → ℕ → List ℕ → Held
front_beside page89h tag rest =
    cond (stands tag rest) (beside (content rest) (expected page89h (field tag (content rest)))) (record { same = true; place = 0 })
