-- The order that a line names: words `field=value`, with spaces between them (RULES 16.5).
use Rattle.std.specs.Prelude.{cond, List, [], ◌∷◌, ◌++◌, ℕ, ◌+◌, ◌-◌, ◌%◌, eqb, ltb, length, get_or, set, take, drop, replicate, codes, position, Option, Some, None, unwrap_or, Result, Ok, Err, ok_or}
use Rattle.std.specs.Option.{is_some, option_or}
use Rattle.std.specs.Result.{result_map_both}
use Rattle.std.specs.List.{flat_map}
use Rattle.std.specs.Str.{bytes_eq}
use Rattle.passthrough_order.specs.declared.Order.{Order}
use Rattle.output.specs.Shown.{shown}
use Rattle.order_words.specs.Words.{parts, some_byte, place_of}
use Rattle.order_words.specs.Number.{number_of}
use Rattle.order_lines.specs.declared.Fault.{Fault}
use Rattle.order_lines.specs.declared.Fault.TheVariants.{NoEquals, NoField, NoNumber, TooLarge, Twice}
use Rattle.order_lines.specs.declared.Word.{Word}
use Rattle.order_lines.specs.declared.Wrong.{Wrong}

-- The fields of an order, as C calls them.
abbrev pub field_names : List (List ℕ)
field_names =
    codes "length" ∷ codes "auxiliary" ∷ codes "features" ∷ codes "count" ∷ codes "lba_low" ∷ codes "lba_mid" ∷ codes "lba_high"
    ∷ codes "quiet_seconds" ∷ codes "sectors_per_block" ∷ codes "device" ∷ codes "command" ∷ codes "protocol" ∷ codes "ck_cond"
    ∷ codes "extend" ∷ codes "direction" ∷ []

abbrev pub direction : ℕ
direction = 14

-- Names of the directions 0, 1 and 2.
abbrev pub directions : List (List ℕ)
directions = codes "none" ∷ codes "from" ∷ codes "to" ∷ []

-- The first number that is too large for a field: the first two have 32 bits, the next seven 16, and the others 8.
abbrev pub limit : ℕ → ℕ
limit field = cond (ltb field 2) 0x100000000 (cond (ltb field 9) 0x10000 0x100)

-- The number that a value is: of the direction also by its name.
unfoldable pub value_of : ℕ → List ℕ → Option ℕ
value_of field value = option_or (cond (eqb field direction) (place_of value directions) None) (number_of value)

-- The place of the first = of a word.
abbrev pub equals_in : List ℕ → Option ℕ
equals_in word = position (λ byte. eqb byte 0x3D) word

-- What there is, and then what comes of it; a fault stays the fault.
abbrev pub and_then : {A B E : Type 0} → Result A E → (A → Result B E) → Result B E
and_then (Ok value) next = next value
and_then (Err fault) next = Err fault

-- What a word says by itself: it has an =; what stands before the first one names a field; and what stands behind it is a number that
-- the field has room for.
unfoldable pub word_of : List ℕ → Result Word Fault
word_of word =
    and_then (ok_or (equals_in word) NoEquals) (λ size.
    and_then (ok_or (place_of (take size word) field_names) NoField) (λ field.
    and_then (ok_or (value_of field (drop (size + 1) word)) NoNumber) (λ value.
    cond (ltb value (limit field)) (Ok (record { field = field; value = value })) (Err TooLarge))))

-- The values of the fields, None where none is given, with what a word more says. No field is given twice.
unfoldable pub with_word : List (Option ℕ) → List ℕ → Result (List (Option ℕ)) Fault
with_word values word =
    and_then (word_of word) (λ said.
    cond (is_some (get_or values said.field None)) (Err Twice) (Ok (set values said.field (Some said.value))))

-- The same with a part of a line: a word, or nothing. One that is wrong comes back with the place where the part starts, and its fault.
abbrev pub with_part : List (Option ℕ) → ℕ → List ℕ → Result (List (Option ℕ)) (ℕ × (List ℕ × Fault))
with_part values start part =
    cond (some_byte part) (result_map_both (λ more. more) (λ fault. (start, (part, fault))) (with_word values part)) (Ok values)

-- The same with each of several parts, between which one byte stands, up to a word that is wrong.
unfoldable pub with_parts : List (Option ℕ) → ℕ → List (List ℕ) → Result (List (Option ℕ)) (ℕ × (List ℕ × Fault))
with_parts values start [] = Ok values
with_parts values start (part ∷ parts) =
    and_then (with_part values start part) (λ more. with_parts more (start + length part + 1) parts)

-- What the words of a line come to. Before the first one no field is given.
abbrev pub read_line : List ℕ → Result (List (Option ℕ)) (ℕ × (List ℕ × Fault))
read_line line = with_parts (replicate 15 None) 0 (parts line)

-- The same without a place: the values with what each of several words says, up to one that is wrong, which comes back with its fault.
-- `words_read` of proofs/Readings says it of the words of a line.
unfoldable pub with_words : List (Option ℕ) → List (List ℕ) → Result (List (Option ℕ)) (List ℕ × Fault)
with_words values [] = Ok values
with_words values (word ∷ words) =
    and_then (result_map_both (λ more. more) (λ fault. (word, fault)) (with_word values word)) (λ more. with_words more words)

-- A carriage return at the line's end is no part of it.
unfoldable pub without_return : List ℕ → List ℕ
without_return line = cond (bytes_eq (drop (length line - 1) line) (0x0D ∷ [])) (take (length line - 1) line) line

-- A field that is not given is 0.
abbrev pub value : List (Option ℕ) → ℕ → ℕ
value values field = unwrap_or (get_or values field None) 0

-- The order of the values, each of as many bits as its field has.
abbrev pub order_of : List (Option ℕ) → Order
order_of values =
    record {
      length = value values 0;
      auxiliary = value values 1;
      features = value values 2 % 0x10000;
      count = value values 3 % 0x10000;
      lba_low = value values 4 % 0x10000;
      lba_mid = value values 5 % 0x10000;
      lba_high = value values 6 % 0x10000;
      quiet_seconds = value values 7 % 0x10000;
      sectors_per_block = value values 8 % 0x10000;
      device = value values 9 % 0x100;
      command = value values 10 % 0x100;
      protocol = value values 11 % 0x100;
      ck_cond = value values 12 % 0x100;
      extend = value values 13 % 0x100;
      direction = value values 14 % 0x100;
    }

-- The order that a line names, or its first wrong word.
abbrev pub order_named : List ℕ → Result Order (ℕ × (List ℕ × Fault))
order_named line = result_map_both order_of (λ wrong. wrong) (read_line line)

-- A wrong word with its bytes in place of the reference to them.
abbrev pub seen : {A : Type 0} → Result A Wrong → Result A (ℕ × (List ℕ × Fault))
seen result = result_map_both (λ value. value) (λ wrong. (wrong.start, (wrong.word.now, wrong.fault))) result

-- What is said of a word that is wrong.
abbrev pub said : Fault → List ℕ
said NoEquals = codes "has no ="
said NoField = codes "names no field of an order"
said NoNumber = codes "has no number"
said TooLarge = codes "has a number too large for its field"
said Twice = codes "gives its field a second time"

abbrev pub complaint : List ℕ → Fault → List ℕ
complaint word fault = flat_map shown word ++ codes " " ++ said fault
