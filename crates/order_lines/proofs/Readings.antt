-- Laws of reading a line.
use Rattle.std.proofs.Common.{◌≡◌, refl, ℕ, suc, ◌+◌, ◌-◌, ◌≤◌, ◌<◌, Bool, true, false, cond, ltb, List, [], ◌∷◌, length, get_or, take, drop, filter, replicate, length-take, length-drop, drop-cons, arith, Option, Some, None, Result, Ok, Err, ok_or}
use lib.ListN.{drop_of_length-le}
use lib.Seq.{take_all}
use Rattle.std.specs.List.{onto_first}
use Rattle.std.specs.Result.{result_map_both}
use Rattle.std.specs.Str.{bytes_eq}
use Rattle.order_words.specs.Words.{is_space, parts, words, some_byte, place_of}
use Rattle.order_lines.specs.declared.Fault.{Fault}
use Rattle.order_lines.specs.declared.Fault.TheVariants.{NoEquals, NoField, NoNumber, TooLarge}
use Rattle.order_lines.specs.Line.{field_names, limit, value_of, equals_in, and_then, word_of, with_word, with_words, with_part, with_parts, read_line, without_return}

-- No field holds a number of more than 32 bits.
pub limit_low : (field : ℕ) → limit field ≤ 0x100000000
limit_low field = by (ltb field 2) (ltb field 9)
  where
    by : (a b : Bool) → cond a 0x100000000 (cond b 0x10000 0x100) ≤ 0x100000000
    by true b = omega arith
    by false true = omega arith
    by false false = omega arith

-- What is left of a word from a place on, as a slice is cut.
pub rest_is : (word : List ℕ) (start : ℕ) → take (length word - start) (drop start word) ≡ drop start word
rest_is word start = take_all (length word - start) (drop start word) (omega (arith, length-drop start word))

-- A word by what is wrong with it.
pub no_equals_is : (word : List ℕ) → equals_in word ≡ None → word_of word ≡ Err NoEquals
unfolding word_of
no_equals_is word e = rw e

pub no_field_is : (word : List ℕ) (size : ℕ) → equals_in word ≡ Some size → place_of (take size word) field_names ≡ None → word_of word ≡ Err NoField
unfolding word_of
no_field_is word size e n = rw (e, n)

pub with_field : (word : List ℕ) (size field : ℕ) → equals_in word ≡ Some size → place_of (take size word) field_names ≡ Some field → word_of word ≡ and_then (ok_or (value_of field (drop (size + 1) word)) NoNumber) (λ value. cond (ltb value (limit field)) (Ok (record { field = field; value = value })) (Err TooLarge))
unfolding word_of
with_field word size field e n = rw (e, n)

-- How many bytes parts take, with the one behind each.
abbrev pub span : List (List ℕ) → ℕ
span [] = 0
span (part ∷ ps) = length part + 1 + span ps

span_onto_first : (byte n : ℕ) (ps : List (List ℕ)) → span ps ≡ n + 1 → span (onto_first byte ps) ≡ suc n + 1
span_onto_first byte n [] e = absurd (omega (arith, e))
span_onto_first byte n (part ∷ ps) e = omega (arith, e)

span_step : (byte : ℕ) (line : List ℕ) (b : Bool) → span (parts line) ≡ length line + 1 → span (cond b ([] ∷ parts line) (onto_first byte (parts line))) ≡ suc (length line) + 1
span_step byte line true e = omega (arith, e)
span_step byte line false e = span_onto_first byte (length line) (parts line) e

-- The parts of a line, with one byte between two of them, are the line.
pub span_parts : (line : List ℕ) → span (parts line) ≡ length line + 1
span_parts [] = omega arith
span_parts (byte ∷ line) = span_step byte line (is_space byte) (span_parts line)

-- A turn over the parts of a line, at part i: one that is right, behind which the next one starts,
pub right_part : (ps : List (List ℕ)) (values more : List (Option ℕ)) (start next i : ℕ) (part : List ℕ) → (i < length ps) × (part ≡ get_or ps i part) → Ok more ≡ with_part values start part → next ≡ start + length part + 1 → with_parts more next (drop (i + 1) ps) ≡ with_parts values start (drop i ps)
unfolding with_parts
right_part ps values more start next i part h e n =
    let k : i + 1 ≡ suc i = omega arith in
    rw (drop-cons ps i part h.0, ← h.1, ← e, n, k)

-- one that is wrong,
pub wrong_part : (ps : List (List ℕ)) (values : List (Option ℕ)) (start i : ℕ) (part : List ℕ) (wrong : ℕ × (List ℕ × Fault)) → (i < length ps) × (part ≡ get_or ps i part) → Err wrong ≡ with_part values start part → Err wrong ≡ with_parts values start (drop i ps)
unfolding with_parts
wrong_part ps values start i part wrong h e = rw (drop-cons ps i part h.0, ← h.1, ← e)

-- and the end.
pub no_more : (ps : List (List ℕ)) (values : List (Option ℕ)) (start i : ℕ) → length ps ≤ i → Ok values ≡ with_parts values start (drop i ps)
unfolding with_parts
no_more ps values start i h = rw (drop_of_length-le ps {i = i} h)

-- What is left of the line at that turn.
pub one_spanned : (ps : List (List ℕ)) (i : ℕ) (part : List ℕ) → (i < length ps) × (part ≡ get_or ps i part) → span (drop i ps) ≡ length part + 1 + span (drop (i + 1) ps)
one_spanned ps i part h =
    let k : i + 1 ≡ suc i = omega arith in
    rw (drop-cons ps i part h.0, ← h.1, k)

-- What comes of a line, but for the place of a wrong word.
abbrev pub unplaced : {A : Type 0} → Result A (ℕ × (List ℕ × Fault)) → Result A (List ℕ × Fault)
unplaced result = result_map_both (λ value. value) (λ wrong. wrong.1) result

-- Of its words alone: those of its parts that are not empty.
abbrev Worded : List (List ℕ) → Type 0
Worded ps = (values : List (Option ℕ)) (start : ℕ) → unplaced (with_parts values start ps) ≡ with_words values (filter some_byte ps)

worded_step : (part : List ℕ) (ps : List (List ℕ)) → Worded ps → Worded (part ∷ ps)
unfolding with_parts with_words
worded_step part ps r values start = by (some_byte part)
  where
    said : (s : Result (List (Option ℕ)) Fault) → unplaced (and_then (result_map_both (λ more. more) (λ fault. (start, (part, fault))) s) (λ more. with_parts more (start + length part + 1) ps)) ≡ and_then (result_map_both (λ more. more) (λ fault. (part, fault)) s) (λ more. with_words more (filter some_byte ps))
    said (Ok more) = r more (start + length part + 1)
    said (Err fault) = refl

    by : (b : Bool) → unplaced (and_then (cond b (result_map_both (λ more. more) (λ fault. (start, (part, fault))) (with_word values part)) (Ok values)) (λ more. with_parts more (start + length part + 1) ps)) ≡ with_words values (cond b (part ∷ filter some_byte ps) (filter some_byte ps))
    by true = said (with_word values part)
    by false = r values (start + length part + 1)

worded : (ps : List (List ℕ)) → Worded ps
unfolding with_parts with_words
worded [] values start = refl
worded (part ∷ ps) values start = worded_step part ps (worded ps) values start

pub words_read : (line : List ℕ) → unplaced (read_line line) ≡ with_words (replicate 15 None) (words line)
words_read line = worded (parts line) (replicate 15 None) 0

-- A line is no longer without its carriage return.
pub no_longer : (line : List ℕ) → length (without_return line) ≤ length line
unfolding without_return
no_longer line = by (bytes_eq (drop (length line - 1) line) (0x0D ∷ []))
  where
    by : (a : Bool) → length (cond a (take (length line - 1) line) line) ≤ length line
    by true = omega (arith, length-take (length line - 1) line)
    by false = omega arith
