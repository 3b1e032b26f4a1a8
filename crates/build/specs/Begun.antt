-- A line that is on its way.
use Rattle.std.specs.Prelude.{◌≡◌, cond, List, [], ◌++◌, ℕ, ◌+◌, length, leb, IsSome, IfSome, Option, None, Some}
use Rattle.arrayvec.specs.ArrayVec.{ArrayVec}
use Rattle.build.specs.declared.Line.{Line}

-- It is within what a line may have, and there is no byte of it yet.
abbrev pub begun : Line → Type 0
begun line = IsSome line.bytes × IfSome line.bytes (λ bytes. bytes.items ≡ [])

-- Its bytes with some more behind them: none where a line has not so many.
abbrev pub with_more : Option (ArrayVec ℕ) → List ℕ → Option (List ℕ)
with_more None more = None
with_more (Some bytes) more = cond (leb (length bytes.items + length more) 4096) (Some (bytes.items ++ more)) None
