-- A capture: what a bridge answered, as tagged fields one behind the other (RULES 15). Of its bytes `rest` are those from some place on.
use Rattle.std.specs.Prelude.{Bool, cond, ◌&&◌, List, [], ◌∷◌, ◌++◌, ℕ, ◌+◌, ◌*◌, ◌/◌, ◌%◌, eqb, leb, length, get_or, take, drop}
use Rattle.capture.specs.declared.Laid.{Laid}

-- A field: a page or standard data, and the tag that says which.
pub record Field : Type 0 where
  pub tag : ℕ
  pub bytes : List ℕ

abbrev pub field : ℕ → List ℕ → Field
field tag bytes = record { tag = tag; bytes = bytes }

-- How a field stands in a capture: the tag, two length bytes, high byte first, and the bytes.
abbrev pub encoded : Field → List ℕ
encoded f = f.tag ∷ length f.bytes / 0x100 ∷ length f.bytes % 0x100 ∷ f.bytes

unfoldable pub captured : List Field → List ℕ
captured [] = []
captured (f ∷ fs) = encoded f ++ captured fs

-- The tags that may stand before 89h, each once and in this order: page 00h, standard data, pages 80h and 83h.
abbrev pub others : List ℕ
others = 0x00 ∷ 0x01 ∷ 0x80 ∷ 0x83 ∷ []

-- What the two length bytes say, and the bytes behind them.
abbrev pub told : List ℕ → ℕ
told rest = 0x100 * get_or rest 1 0 + get_or rest 2 0

abbrev pub content : List ℕ → List ℕ
content rest = take (told rest) (drop 3 rest)

-- A field of this tag stands at the front: the tag, both length bytes, and as many bytes as they say.
abbrev pub stands : ℕ → List ℕ → Bool
stands tag rest = eqb (get_or rest 0 0) tag && leb (3 + told rest) (length rest)

-- The bytes that it takes: none where it does not stand there.
abbrev pub taken : ℕ → List ℕ → ℕ
taken tag rest = cond (stands tag rest) (3 + told rest) 0

-- The fields that stand one behind the other, their tags among these and in this order. So they end before a field whose tag is
-- another, or not above the one before, and before one that is not all there.
unfoldable pub fields : List ℕ → List ℕ → List Field
fields [] rest = []
fields (tag ∷ tags) rest =
    cond (stands tag rest) (field tag (content rest) ∷ fields tags (drop (3 + told rest) rest)) (fields tags rest)

-- The bytes that fields take in a capture.
unfoldable pub size : List Field → ℕ
size [] = 0
size (f ∷ fs) = 3 + length f.bytes + size fs

-- Where 89h is to stand: behind all others.
unfoldable pub place89 : List ℕ → ℕ
place89 capture = size (fields others capture)

-- It stands there, and has 572 bytes.
abbrev pub stands89 : List ℕ → Bool
stands89 rest = stands 0x89 rest && eqb (told rest) 572

abbrev pub has89 : List ℕ → Bool
has89 capture = stands89 (drop (place89 capture) capture)

-- 21: the layout holds where 89h is there and nothing stands behind it. Else `end` is the place of the first field that is at
-- fault: the one that 89h is missing at, or the one behind 89h; and the capture's end where no field is left.
abbrev pub end : List ℕ → ℕ
end capture = cond (has89 capture) (place89 capture + 575) (place89 capture)

unfoldable pub holds : List ℕ → Bool
holds capture = has89 capture && eqb (place89 capture + 575) (length capture)

unfoldable pub layout : List ℕ → Laid
layout capture = record { holds = holds capture; place = end capture }

-- The bytes of 89h, and all fields of a capture whose layout holds.
unfoldable pub information : List ℕ → List ℕ
information capture = content (drop (place89 capture) capture)

unfoldable pub fields_of : List ℕ → List Field
fields_of capture = fields others capture ++ (field 0x89 (information capture) ∷ [])
