-- The bytes of a pattern: how many parts it has, and each by a number in three bytes.
use Rattle.std.specs.Prelude.{◌⊎◌, ℕ, ◌<◌, ◌≤◌, ◌/◌, ◌%◌, true, false, List, [], ◌∷◌, Option, Some, None, option_map}
use Rattle.std.specs.Char.{IsScalar}
use Rattle.like_patterns.specs.declared.case.Case.{Case}
use Rattle.like_patterns.specs.declared.case.Case.TheVariants.{Sensitive, Insensitive}
use Rattle.like_patterns.specs.Patterns.{Part, literal, any_character, any_string}
use Rattle.like_patterns.specs.Texts.{parts_from}
use Rattle.filter_encoding.specs.declared.patterns.PatternPart.{PatternPart}
use Rattle.filter_encoding.specs.declared.patterns.PatternPart.TheVariants.{AnyCharacter, AnyString, Character}

-- ---- the case

-- the byte of a case
abbrev pub case_byte : Case → ℕ
case_byte Sensitive = 0
case_byte Insensitive = 1

-- the same, as a string of one byte
abbrev pub case_bytes : Case → List ℕ
case_bytes case = case_byte case ∷ []

abbrev pub IsCase : Case → Type 0
IsCase case = Unit {0}

-- ---- parts

-- the number of a part: the code of a character, and the two after the last code
abbrev pub part_number : Part → ℕ
part_number (literal c) = c
part_number any_character = 0x11_0000
part_number any_string = 0x11_0001

-- the number of some part: no surrogate
abbrev pub IsNumber : ℕ → Type 0
IsNumber n = (n < 0xD800) ⊎ ((0xE000 ≤ n) × (n < 0x11_0002))

-- a number that three bytes can hold, the highest first
abbrev pub three_bytes : ℕ → List ℕ
three_bytes n = n / 65536 ∷ n / 256 % 256 ∷ n % 256 ∷ []

abbrev pub part_bytes : Part → List ℕ
part_bytes part = three_bytes (part_number part)

-- a part whose character, if it is one, is a Unicode scalar value
abbrev pub IsPart : Part → Type 0
IsPart (literal c) = IsScalar c
IsPart any_character = Unit {0}
IsPart any_string = Unit {0}

-- what the code sees of a part
abbrev pub part_of : PatternPart → Part
part_of (Character c) = literal c
part_of AnyCharacter = any_character
part_of AnyString = any_string

-- ---- parts as a text spells them, with the escape `\`

-- what a character made of those that follow: it is a part, or escapes the next
abbrev pub goes_on : Option PatternPart → List ℕ → Option (List Part)
goes_on None cs = parts_from (Some 92) true cs
goes_on (Some part) cs = option_map (λ more. part_of part ∷ more) (parts_from (Some 92) false cs)
