-- How far the input is read.
use Rattle.std.specs.Prelude.{ℕ, ◌-◌, ◌^◌}
use Rattle.input.specs.declared.stream.Source.{Source}
use Rattle.input.specs.declared.stream.Source.TheVariants.{Standard, File, Ended}

-- How many words may still name a file: those from the one whose file is open on. Behind standard input, or where nothing is open, none
-- does.
abbrev pub words_left : {R : Type 0} → Source R → ℕ
words_left (Standard reader) = 0
words_left (File word file) = 2 ^ 64 - word
words_left Ended = 0
