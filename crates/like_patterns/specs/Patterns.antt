-- The patterns of `like`, and which strings they match. A string is the list of its characters.
use Rattle.std.specs.Prelude.{ℕ, Bool, true, false, ◌==◌, ◌&&◌, ◌||◌, List, [], ◌∷◌, map}
use Rattle.std.specs.Char.{to_ascii_lowercase}
use Rattle.like_patterns.specs.declared.case.Case.{Case}
use Rattle.like_patterns.specs.declared.case.Case.TheVariants.{Sensitive, Insensitive}

-- a part of a pattern: a character that stands for itself; `_`, one character; `%`, any string, also the empty one
pub data Part : Type 0 where
  literal : ℕ → Part
  any_character : Part
  any_string : Part

-- whether the test passes what is left behind some beginning of the string
abbrev pub some_rest : (List ℕ → Bool) → List ℕ → Bool
some_rest test [] = test []
some_rest test (c ∷ cs) = test (c ∷ cs) || some_rest test cs

-- whether the whole string is what the parts stand for, one behind another
unfoldable pub matches : List Part → List ℕ → Bool
matches [] [] = true
matches [] (c ∷ cs) = false
matches (literal d ∷ parts) [] = false
matches (literal d ∷ parts) (c ∷ cs) = c == d && matches parts cs
matches (any_character ∷ parts) [] = false
matches (any_character ∷ parts) (c ∷ cs) = matches parts cs
matches (any_string ∷ parts) cs = some_rest (matches parts) cs

-- the pattern with the letters of ASCII in lower case
abbrev pub lower_part : Part → Part
lower_part (literal c) = literal (to_ascii_lowercase c)
lower_part any_character = any_character
lower_part any_string = any_string

-- `like`, and `ilike`, for which letters of ASCII have no case
abbrev pub is_like : Case → List Part → List ℕ → Bool
is_like Sensitive parts cs = matches parts cs
is_like Insensitive parts cs = matches (map lower_part parts) (map to_ascii_lowercase cs)

-- the characters that each string begins with which the pattern matches: those before the first `_` or `%`
abbrev pub leading : List Part → List ℕ
leading [] = []
leading (literal c ∷ parts) = c ∷ leading parts
leading (any_character ∷ parts) = []
leading (any_string ∷ parts) = []
