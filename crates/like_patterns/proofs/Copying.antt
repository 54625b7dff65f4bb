-- What a pattern says depends on the shapes of its pieces alone.
use Rattle.std.proofs.Common.{◌≡◌, ℕ, Bool, true, false, not, ◌&&◌, nat_lt, List, [], ◌∷◌, ◌++◌, length, map, refl, sym, ap, ◌∙◌}
use Rattle.std.specs.Str.{chars}
use Rattle.like_patterns.specs.declared.case.Case.TheVariants.{Sensitive}
use Rattle.like_patterns.specs.declared.pieces.Fixed.TheVariants as fixed
use Rattle.like_patterns.specs.declared.pieces.Piece.{Piece}
use Rattle.like_patterns.specs.declared.pieces.Piece.TheVariants as pieces
use Rattle.like_patterns.specs.Patterns.{Part, any_character, any_string}
use Rattle.like_patterns.specs.Pieces.{Shape, are_in_runs, character_shape, literals, parts_of, piece_shape, string_shape, text_shape}

abbrev shape_parts : List Shape → List Part
shape_parts [] = []
shape_parts (text_shape bs ∷ shapes) = literals (chars bs) ++ shape_parts shapes
shape_parts (character_shape ∷ shapes) = any_character ∷ shape_parts shapes
shape_parts (string_shape ∷ shapes) = any_string ∷ shape_parts shapes

abbrev shapes_in_runs : Bool → List Shape → Bool
shapes_in_runs behind_text [] = true
shapes_in_runs behind_text (text_shape bs ∷ shapes) = not behind_text && (nat_lt 0 (length bs) && shapes_in_runs true shapes)
shapes_in_runs behind_text (character_shape ∷ shapes) = shapes_in_runs false shapes
shapes_in_runs behind_text (string_shape ∷ shapes) = shapes_in_runs false shapes

parts_by_shapes : (ps : List Piece) → parts_of Sensitive ps ≡ shape_parts (map piece_shape ps)
parts_by_shapes [] = refl
parts_by_shapes (pieces.Fixed (fixed.Text text) ∷ ps) = ap (λ (l : List Part). literals (chars text.string.bytes.items) ++ l) (parts_by_shapes ps)
parts_by_shapes (pieces.Fixed fixed.AnyCharacter ∷ ps) = ap (λ (l : List Part). any_character ∷ l) (parts_by_shapes ps)
parts_by_shapes (pieces.AnyString ∷ ps) = ap (λ (l : List Part). any_string ∷ l) (parts_by_shapes ps)

runs_by_shapes : (behind_text : Bool) (ps : List Piece) → are_in_runs behind_text ps ≡ shapes_in_runs behind_text (map piece_shape ps)
runs_by_shapes behind_text [] = refl
runs_by_shapes behind_text (pieces.Fixed (fixed.Text text) ∷ ps) = ap (λ (b : Bool). not behind_text && (nat_lt 0 (length text.string.bytes.items) && b)) (runs_by_shapes true ps)
runs_by_shapes behind_text (pieces.Fixed fixed.AnyCharacter ∷ ps) = runs_by_shapes false ps
runs_by_shapes behind_text (pieces.AnyString ∷ ps) = runs_by_shapes false ps

-- pieces of the same shapes are the same parts, and in runs if the others are
pub same_parts : (ps qs : List Piece) → map piece_shape ps ≡ map piece_shape qs → parts_of Sensitive ps ≡ parts_of Sensitive qs
same_parts ps qs e = parts_by_shapes ps ∙ ap shape_parts e ∙ sym (parts_by_shapes qs)

pub same_runs : (ps qs : List Piece) → map piece_shape ps ≡ map piece_shape qs → are_in_runs false qs ≡ true → are_in_runs false ps ≡ true
same_runs ps qs e runs = runs_by_shapes false ps ∙ ap (shapes_in_runs false) e ∙ sym (runs_by_shapes false qs) ∙ runs
