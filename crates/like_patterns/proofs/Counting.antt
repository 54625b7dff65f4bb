-- How many parts pieces are.
use Rattle.std.proofs.Common.{◌≡◌, ℕ, ◌+◌, ◌<◌, List, [], ◌∷◌, ◌++◌, get_or, length, take, sym, ap, ◌∙◌, length-append}
use Rattle.std.proofs.lemmas.List.{take_more}
use Rattle.like_patterns.specs.declared.case.Case.TheVariants.{Sensitive}
use Rattle.like_patterns.specs.declared.pieces.Piece.{Piece}
use Rattle.like_patterns.specs.Pieces.{parts_of, piece_parts}
use Rattle.like_patterns.proofs.Stripping.{parts_of-push}

pub count_more : (items : List Piece) (i : ℕ) (piece : Piece) → i < length items → piece ≡ get_or items i piece
    → length (parts_of Sensitive (take (i + 1) items)) ≡ length (parts_of Sensitive (take i items)) + length (piece_parts Sensitive piece)
count_more items i piece below is =
    ap (λ (l : List Piece). length (parts_of Sensitive l)) (take_more items i piece below ∙ ap (λ (p : Piece). take i items ++ p ∷ []) (sym is))
    ∙ ap length (parts_of-push Sensitive (take i items) piece) ∙ length-append (parts_of Sensitive (take i items)) (piece_parts Sensitive piece)
