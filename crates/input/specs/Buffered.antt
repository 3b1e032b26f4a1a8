-- What a clause reads of a `Buffered`.
use Rattle.std.specs.Prelude.{ℕ, List, drop, Option}
use Rattle.std.specs.Io.KnownBytes.{append_known}
use Rattle.input.specs.declared.buffered.Buffered.{Buffered}

-- The bytes that are gathered and not yet handed on.
abbrev pub waiting : {W : Type 0} → Buffered W → List ℕ
waiting b = drop b.handed b.bytes.items

-- What the writer behind holds, and then what waits, where the first is known.
abbrev pub buffered_contents : {W : Type 0} → (W → Option (List ℕ)) → Buffered W → Option (List ℕ)
buffered_contents contents b = append_known (contents b.to) (waiting b)
