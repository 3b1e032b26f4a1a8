-- When two blocks are the same drive (RULES 5).
use Rattle.std.specs.Prelude.{Bool, not, ◌&&◌, ◌||◌, List, ℕ}
use Rattle.texts.specs.Text.{spaced}
use Rattle.identify.specs.Block.{serial, model, name}
use Rattle.identify.specs.Bytes.{equal}
use Rattle.identify.specs.Names.{carries_name}

-- The same drive: two names, and they are equal; or no name on either side, and model and serial number are equal with their
-- zero bytes as spaces.
unfoldable pub same_drive : List ℕ → List ℕ → Bool
same_drive a b =
    carries_name a && carries_name b && equal (name a) (name b)
    || not (carries_name a) && not (carries_name b) && equal (spaced (model a)) (spaced (model b)) && equal (spaced (serial a)) (spaced (serial b))
