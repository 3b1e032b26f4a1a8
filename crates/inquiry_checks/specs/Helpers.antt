-- No rules: names for contracts of functions below the entry.
use Rattle.std.specs.Prelude.{List, [], ℕ, take, drop}
use Rattle.rules.specs.First.{first}
use Rattle.port.specs.declared.Ports.{Ports}
use Rattle.inquiry_asked.specs.Request.{Request, request}
use Rattle.inquiry_checks.specs.Checks.{checks}

-- All checks but the last, which alone looks at the room.
unfoldable pub early_refusal : Request → ℕ → ℕ
early_refusal q sense = first (take 10 (checks q 0 sense))

-- The last five of these, which are those of a whole command: they look at neither texts nor sizes.
unfoldable pub command_refusal : List ℕ → List ℕ → List ℕ → List ℕ → Ports → ℕ
command_refusal command block signature reply ports = first (take 5 (drop 5 (checks (request command block signature [] reply ports []) 0 0)))
