-- What was read of a pattern's text.
use Rattle.std.specs.Prelude.{◌≡◌, ℕ, ⊤, Bool, true, false, List, [], ◌∷◌, ◌++◌, Option, Some, is_some, IfSome}
use Rattle.std.specs.Option.{option_map}
use Rattle.std.specs.Str.{chars}
use Rattle.std.specs.String.{string_bytes}
use Rattle.like_patterns.specs.declared.case.Case.TheVariants.{Sensitive}
use Rattle.like_patterns.specs.declared.pieces.Piece.{Piece}
use Rattle.like_patterns.specs.declared.pieces.Piece.TheVariants as pieces
use Rattle.like_patterns.specs.declared.pieces.Fixed.TheVariants as fixed
use Rattle.like_patterns.specs.declared.reading.Reader.{Reader}
use Rattle.like_patterns.specs.Patterns.{Part}
use Rattle.like_patterns.specs.Pieces.{are_in_runs, ends_in_text, literals, parts_of}
use Rattle.like_patterns.specs.Texts.{parts_from}

-- the parts that were read
abbrev pub reader_parts : Reader → List Part
reader_parts reader = parts_of Sensitive reader.pieces.items ++ literals (chars (string_bytes reader.run))

-- another character may stand for itself behind the pieces
pub record IsOpen (reader : Reader) : Type 0 where
  pub in_runs : are_in_runs false reader.pieces.items ≡ true
  pub open_end : ends_in_text false reader.pieces.items ≡ false

-- `%` or `_`
abbrev pub IsWildcard : Piece → Type 0
IsWildcard (pieces.Fixed (fixed.Text text)) = ⊥
IsWildcard (pieces.Fixed fixed.AnyCharacter) = ⊤
IsWildcard pieces.AnyString = ⊤

-- behind the parts, those that a text spells
abbrev pub parts_behind : List Part → Option ℕ → Bool → List ℕ → Option (List Part)
parts_behind parts escape is_escaped cs = option_map (λ more. parts ++ more) (parts_from escape is_escaped cs)

-- a character makes one state of the other, whatever follows it
abbrev pub Goes : Option ℕ → List Part → Bool → ℕ → List Part → Bool → Type 0
Goes escape parts is_escaped c after then_escaped = (cs : List ℕ) → parts_behind parts escape is_escaped (c ∷ cs) ≡ parts_behind after escape then_escaped cs

-- what was read of a text, with a character that escapes the next
pub record Reads (escape : Option ℕ) (done : List ℕ) (reader : Reader) (pending : Option ℕ) : Type 0 where
  pub is_open : IsOpen reader
  pub parts : (cs : List ℕ) → parts_from escape false (done ++ cs) ≡ parts_behind (reader_parts reader) escape (is_some pending) cs
  pub last : IfSome pending (λ c. (escape ≡ Some c) × ((front : List ℕ) × (done ≡ front ++ c ∷ [])))
