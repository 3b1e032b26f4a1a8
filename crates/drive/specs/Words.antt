-- What it is to be the same drive, over the words of two blocks (RULES 5).
use Rattle.std.specs.Prelude.{◌≡◌, List, ℕ}
use Rattle.texts.specs.Text.{spaced}
use Rattle.identify.specs.Block.{serial, model}
use Rattle.identify.specs.Words.{SameWords, Named, Nameless}

-- Both blocks carry a name, words 108 to 111, and it is the same one.
abbrev pub NameInWords : List ℕ → List ℕ → Type 0
NameInWords a b = Named a × Named b × SameWords 108 111 a b

-- Neither carries one, and model and serial number are equal with their zero bytes as spaces.
abbrev pub TextsInWords : List ℕ → List ℕ → Type 0
TextsInWords a b = Nameless a × Nameless b × (spaced (model a) ≡ spaced (model b)) × (spaced (serial a) ≡ spaced (serial b))
