-- What is written of the rows of several files.
use Rattle.std.specs.Prelude.{ℕ, List, [], ◌∷◌, ◌++◌, Bool, codes, if◌then◌else◌}
use Rattle.std.specs.Fmt.{decimal}
use Rattle.std.specs.Io.BufRead.{ends_with_byte}

-- a number and a colon, if they are wanted
abbrev pub number_front : Bool → ℕ → List ℕ
number_front has_number number = if has_number then decimal number ++ codes ":" else []

-- a record as a line: with a line feed behind it, unless it ends in one
abbrev pub whole_line : List ℕ → List ℕ
whole_line line = line ++ (if ends_with_byte 10 line then [] else 10 ∷ [])

-- a record as a line, after a text and perhaps its number: TEXT NUMBER:RECORD, without the blank
abbrev pub line_record : List ℕ → Bool → ℕ → List ℕ → List ℕ
line_record text has_number number line = text ++ (number_front has_number number ++ whole_line line)
