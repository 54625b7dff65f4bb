-- Patterns as they are written: `%` and `_`, and before a character that stands for itself perhaps the escape.
use Rattle.std.specs.Prelude.{◌≡◌, ℕ, Bool, true, false, ◌==◌, ◌||◌, List, [], ◌∷◌, ◌++◌, drop, Option, None, Some, if◌then◌else◌}
use Rattle.std.specs.Option.{option_map}
use Rattle.std.specs.List.{flat_map}
use Rattle.std.specs.Char.{encode_utf8}
use Rattle.std.specs.Str.{chars}
use Rattle.like_patterns.specs.Patterns.{Part, literal, any_character, any_string}

-- what a character says that is not escaped
abbrev pub part_of : ℕ → Part
part_of c = if c == 37 then any_string else if c == 95 then any_character else literal c

-- whether the character is the escape, if there is one
abbrev pub is_escape : Option ℕ → ℕ → Bool
is_escape None c = false
is_escape (Some escape) c = c == escape

-- the parts that a text spells, of which the first character may be escaped; none if the escape ends it
unfoldable pub parts_from : Option ℕ → Bool → List ℕ → Option (List Part)
parts_from escape false [] = Some []
parts_from escape true [] = None
parts_from escape false (c ∷ cs) =
    if is_escape escape c then parts_from escape true cs
    else option_map (λ parts. part_of c ∷ parts) (parts_from escape false cs)
parts_from escape true (c ∷ cs) = option_map (λ parts. literal c ∷ parts) (parts_from escape false cs)

-- the pattern that a text spells, with this escape or without one
abbrev pub pattern_of : Option ℕ → List ℕ → Option (List Part)
pattern_of escape cs = parts_from escape false cs

-- the text is no pattern, since its last character, at this offset, is the escape, and nothing follows that
pub record EndsInEscape (escape : Option ℕ) (text : List ℕ) (offset : ℕ) : Type 0 where
  pub character : ℕ
  pub is : escape ≡ Some character
  pub last : drop offset text ≡ encode_utf8 character
  pub none : pattern_of escape (chars text) ≡ None

-- whether the character has a meaning of its own in a text whose escape is `\`
abbrev pub is_special : ℕ → Bool
is_special c = c == 37 || c == 95 || c == 92

-- a part as it is written with the escape `\`
abbrev pub part_text : Part → List ℕ
part_text (literal c) = if is_special c then 92 ∷ c ∷ [] else c ∷ []
part_text any_character = 95 ∷ []
part_text any_string = 37 ∷ []

abbrev pub pattern_text : List Part → List ℕ
pattern_text parts = flat_map part_text parts

-- a character as it is written, twice if it is the quote
abbrev pub quotable : Option ℕ → ℕ → List ℕ
quotable quote c = if is_escape quote c then encode_utf8 c ++ encode_utf8 c else encode_utf8 c

-- characters as they are written, each quote twice, if there is one
abbrev pub quotable_text : Option ℕ → List ℕ → List ℕ
quotable_text quote cs = flat_map (quotable quote) cs

-- whether some character of the pattern that stands for itself is special
abbrev pub has_special : List Part → Bool
has_special [] = false
has_special (literal c ∷ parts) = is_special c || has_special parts
has_special (any_character ∷ parts) = has_special parts
has_special (any_string ∷ parts) = has_special parts
