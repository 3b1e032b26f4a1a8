-- What is shown of a line: the command that is built, or its refusal (RULES 16.5).
use Rattle.std.specs.Prelude.{Bool, cond, ◌||◌, List, [], ◌∷◌, ◌++◌, ℕ, eqb, get_or, take, codes, Option, None, Some, Result, Ok}
use Rattle.std.specs.List.{flat_map, list_all}
use Rattle.std.specs.Fmt.{decimal}
use Rattle.std.specs.Result.{result_map_both}
use Rattle.output.specs.Shown.{two_digits}
use Rattle.builder.specs.declared.Built.{Built}
use Rattle.builder.specs.Builder.{build}
use Rattle.order_words.specs.Words.{is_space}
use Rattle.order_lines.specs.declared.Fault.{Fault}
use Rattle.order_lines.specs.Line.{order_named, without_return}
use Rattle.order_shown.specs.declared.Answer.{Answer}

-- Two hexadecimal digits for a byte.
abbrev pub shown_byte : ℕ → List ℕ
shown_byte byte = two_digits byte

-- Several bytes, with a space before each but the first.
abbrev pub shown_bytes : List ℕ → List ℕ
shown_bytes [] = []
shown_bytes (byte ∷ bytes) = shown_byte byte ++ flat_map (λ other. 0x20 ∷ shown_byte other) bytes

-- A command or a refusal, and the line's end.
unfoldable pub shown_built : Built → List ℕ
shown_built built =
    cond (eqb built.number 0) (shown_bytes (take built.size built.command)) (codes "refused " ++ decimal built.number)
    ++ 0x0A ∷ []

-- Nothing is said of a line without a word, or with # for its first byte.
abbrev pub passed_over : List ℕ → Bool
passed_over line = eqb (get_or line 0 0) 0x23 || list_all is_space line

-- What is said of any other line: an answer for the order that it names, or its first wrong word.
unfoldable pub answer_for : List ℕ → Result (Option Answer) (ℕ × (List ℕ × Fault))
answer_for line =
    cond (passed_over line) (Ok None)
    (result_map_both (λ order. Some (record { 0 = build order })) (λ wrong. wrong) (order_named line))

abbrev pub answer_to : List ℕ → Result (Option Answer) (ℕ × (List ℕ × Fault))
answer_to line = answer_for (without_return line)
