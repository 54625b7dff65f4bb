-- A pattern as it is compared is that pattern with its letters in lower case.
use Rattle.std.proofs.Common.{◌≡◌, ℕ, List, [], ◌∷◌, ◌++◌, map, refl, sym, ap, ◌∙◌}
use Rattle.std.proofs.lemmas.List.{map-append}
use Rattle.std.proofs.lemmas.Str.{IsUtf8-string_bytes}
use Rattle.std.specs.Char.{to_ascii_lowercase}
use Rattle.std.specs.Str.{IsUtf8, chars}
use Rattle.std.specs.String.{string_bytes}
use Rattle.like_patterns.specs.declared.case.Case.{Case}
use Rattle.like_patterns.specs.declared.case.Case.TheVariants.{Sensitive, Insensitive}
use Rattle.like_patterns.specs.declared.pieces.Fixed.TheVariants as fixed
use Rattle.like_patterns.specs.declared.pieces.Piece.{Piece}
use Rattle.like_patterns.specs.declared.pieces.Piece.TheVariants as pieces
use Rattle.like_patterns.specs.Characters.{compared}
use Rattle.like_patterns.specs.Patterns.{Part, is_like, literal, lower_part, matches}
use Rattle.like_patterns.specs.Pieces.{literals, parts_of, piece_parts}
use Rattle.like_patterns.proofs.Letters.{chars-compared}

lower_literals : (cs : List ℕ) → map lower_part (literals cs) ≡ literals (map to_ascii_lowercase cs)
lower_literals [] = refl
lower_literals (c ∷ cs) = ap (λ (l : List Part). literal (to_ascii_lowercase c) ∷ l) (lower_literals cs)

lower_piece : (piece : Piece) → map lower_part (piece_parts Sensitive piece) ≡ piece_parts Insensitive piece
lower_piece (pieces.Fixed (fixed.Text text)) = lower_literals (chars (string_bytes text.string)) ∙ ap literals (sym (chars-compared Insensitive (string_bytes text.string) (IsUtf8-string_bytes text.string)))
lower_piece (pieces.Fixed fixed.AnyCharacter) = refl
lower_piece pieces.AnyString = refl

lower_parts : (ps : List Piece) → map lower_part (parts_of Sensitive ps) ≡ parts_of Insensitive ps
lower_parts [] = refl
lower_parts (piece ∷ ps) =
    map-append lower_part (piece_parts Sensitive piece) (parts_of Sensitive ps) ∙ ap (λ (l : List Part). l ++ map lower_part (parts_of Sensitive ps)) (lower_piece piece)
    ∙ ap (λ (l : List Part). piece_parts Insensitive piece ++ l) (lower_parts ps)

pub is_like_is : (case : Case) (ps : List Piece) (text : List ℕ) → IsUtf8 text → matches (parts_of case ps) (chars (compared case text)) ≡ is_like case (parts_of Sensitive ps) (chars text)
is_like_is Sensitive ps text utf8 = refl
is_like_is Insensitive ps text utf8 = ap (λ (l : List Part). matches l (chars (compared Insensitive text))) (sym (lower_parts ps)) ∙ ap (matches (map lower_part (parts_of Sensitive ps))) (chars-compared Insensitive text utf8)
