-- The pieces of a pattern, and what is left of a text when they are stripped off it.
use Rattle.std.specs.Prelude.{◌≡◌, ℕ, ⊤, Bool, true, false, not, ◌&&◌, nat_lt, List, [], ◌∷◌, ◌++◌, map, length}
use Rattle.std.specs.List.{flat_map}
use Rattle.std.specs.Str.{chars}
use Rattle.std.specs.String.{string_bytes}
use Rattle.like_patterns.specs.declared.case.Case.{Case}
use Rattle.like_patterns.specs.declared.pieces.Fixed.{Fixed}
use Rattle.like_patterns.specs.declared.pieces.Fixed.TheVariants as fixed
use Rattle.like_patterns.specs.declared.pieces.Piece.{Piece}
use Rattle.like_patterns.specs.declared.pieces.Piece.TheVariants as pieces
use Rattle.like_patterns.specs.Characters.{compared}
use Rattle.like_patterns.specs.Patterns.{Part, literal, any_character, any_string, matches}

-- characters that stand for themselves
abbrev pub literals : List ℕ → List Part
literals cs = map literal cs

-- whether no part is `%`
abbrev pub is_fixed : List Part → Bool
is_fixed [] = true
is_fixed (literal c ∷ parts) = is_fixed parts
is_fixed (any_character ∷ parts) = is_fixed parts
is_fixed (any_string ∷ parts) = false

-- the parts that pieces are, with their characters as they are compared
abbrev pub fixed_parts : Case → Fixed → List Part
fixed_parts case (fixed.Text text) = literals (chars (compared case (string_bytes text.string)))
fixed_parts case fixed.AnyCharacter = any_character ∷ []

abbrev pub piece_parts : Case → Piece → List Part
piece_parts case (pieces.Fixed piece) = fixed_parts case piece
piece_parts case pieces.AnyString = any_string ∷ []

abbrev pub parts_of : Case → List Piece → List Part
parts_of case ps = flat_map (piece_parts case) ps

-- what a piece is, but for what was made ready to search for it
pub data Shape : Type 0 where
  text_shape : List ℕ → Shape
  character_shape : Shape
  string_shape : Shape

abbrev pub piece_shape : Piece → Shape
piece_shape (pieces.Fixed (fixed.Text text)) = text_shape (string_bytes text.string)
piece_shape (pieces.Fixed fixed.AnyCharacter) = character_shape
piece_shape pieces.AnyString = string_shape

-- whether the last piece is a text, or if there is none, what stands before
abbrev pub ends_in_text : Bool → List Piece → Bool
ends_in_text before [] = before
ends_in_text before (pieces.Fixed (fixed.Text text) ∷ ps) = ends_in_text true ps
ends_in_text before (pieces.Fixed fixed.AnyCharacter ∷ ps) = ends_in_text false ps
ends_in_text before (pieces.AnyString ∷ ps) = ends_in_text false ps

-- whether each text has a character, and none follows another
abbrev pub are_in_runs : Bool → List Piece → Bool
are_in_runs behind_text [] = true
are_in_runs behind_text (pieces.Fixed (fixed.Text text) ∷ ps) = not behind_text && (nat_lt 0 (length (string_bytes text.string)) && are_in_runs true ps)
are_in_runs behind_text (pieces.Fixed fixed.AnyCharacter ∷ ps) = are_in_runs false ps
are_in_runs behind_text (pieces.AnyString ∷ ps) = are_in_runs false ps

-- the pieces are at their end, or `%` comes next
abbrev pub StopsAtAny : List Piece → Type 0
StopsAtAny [] = ⊤
StopsAtAny (pieces.Fixed piece ∷ ps) = ⊥
StopsAtAny (pieces.AnyString ∷ ps) = ⊤

-- whether the parts match some part of the text
abbrev pub matches_inside : List Part → List ℕ → Bool
matches_inside parts text = matches (any_string ∷ parts ++ any_string ∷ []) (chars text)

-- the text is characters that the parts match, and then the rest
pub record StripsFront (parts : List Part) (text rest : List ℕ) : Type 0 where
  pub front : List ℕ
  pub is : chars text ≡ front ++ chars rest
  pub matched : matches parts front ≡ true

-- the text is the front, and then characters that the parts match
pub record StripsEnd (parts : List Part) (text front : List ℕ) : Type 0 where
  pub rest : List ℕ
  pub is : chars text ≡ chars front ++ rest
  pub matched : matches parts rest ≡ true

-- no pattern matches the text that begins with these parts, or that ends with them
abbrev pub FailsAtFront : List Part → List ℕ → Type 0
FailsAtFront parts text = (more : List Part) → matches (parts ++ more) (chars text) ≡ false

abbrev pub FailsAtEnd : List Part → List ℕ → Type 0
FailsAtEnd parts text = (more : List Part) → matches (more ++ parts) (chars text) ≡ false

-- the text is characters that the first parts match, and then the rest, for the parts that are left; among the first is no `%`
pub record StripsTo (parts : List Part) (text : List ℕ) (left : List Part) (rest : List ℕ) : Type 0 where
  pub gone : List Part
  pub are : parts ≡ gone ++ left
  pub fixed : is_fixed gone ≡ true
  pub strips : StripsFront gone text rest
