-- The rows of the input, line by line.
use Rattle.std.specs.Prelude.{ℕ, List, [], ◌∷◌, ◌++◌, Option, None, Some, if◌then◌else◌, codes, length, nat_le}
use Rattle.std.specs.List.{flat_map}
use Rattle.hex.specs.Hex.{encode_lower}
use Rattle.vortex_pvalue.specs.Numbers.{in_range}
use Rattle.vortex_pvalue.specs.Whole.{number_text, pvalue_text}
use Rattle.vortex_pvalue.specs.declared.pvalues.PValue.{PValue}
use Rattle.vortex_bounds.specs.Strings.{lower_of, upper_of}
use Rattle.rows.specs.Grammar.{Request, cast, bound, request_in}
use Rattle.rows.specs.Lines.{lines_of}
use Rattle.rows.specs.declared.commands.Side.{Side}
use Rattle.rows.specs.declared.commands.Side.TheVariants.{Lower, Upper}

-- a number with its PType, or that the cast is refused
abbrev pub cast_text : Option PValue → List ℕ
cast_text None = codes "refused"
cast_text (Some number) = pvalue_text number

-- a bound in lower case hexadecimal, or that there is none
abbrev pub bound_text : Option (List ℕ) → List ℕ
bound_text None = codes "none"
bound_text (Some bytes) = encode_lower bytes

-- the bound on this side of more than n bytes
abbrev pub bound_of : Side → ℕ → List ℕ → Option (List ℕ)
bound_of Lower n bytes = Some (lower_of bytes n)
bound_of Upper n bytes = upper_of bytes n

-- the row of a request. Of a cast: the number, if the second PType has it, else that the cast is refused. Of a bound: the bytes
-- themselves, if there are at most n, else their bound, if there is one
abbrev pub request_text : Request → List ℕ
request_text (cast from z to) = if in_range to z then number_text to z else codes "refused"
request_text (bound side n bytes) = if nat_le (length bytes) n then encode_lower bytes else bound_text (bound_of side n bytes)

-- the row of a line's request, or that the line is bad
abbrev pub row_text : Option Request → List ℕ
row_text None = codes "bad line"
row_text (Some request) = request_text request

-- the rows of all lines of the input, each with a line feed
abbrev pub rows_of : List ℕ → List ℕ
rows_of text = flat_map (λ line. row_text (request_in line) ++ 10 ∷ []) (lines_of text)
