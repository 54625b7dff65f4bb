-- Patterns are written piece by piece.
use Rattle.std.proofs.Common.{◌≡◌, ℕ, ◌+◌, ◌<◌, List, [], ◌∷◌, ◌++◌, Option, None, get_or, length, take, refl, sym, ap, ◌∙◌, append_assoc, append-nil}
use Rattle.std.proofs.lemmas.List.{map-append, take_more}
use Rattle.std.proofs.lemmas.List.Concat.{flat_map-append}
use Rattle.std.specs.Str.{encode_utf8_all}
use Rattle.like_patterns.specs.declared.case.Case.TheVariants.{Sensitive}
use Rattle.like_patterns.specs.declared.pieces.Piece.{Piece}
use Rattle.like_patterns.specs.Patterns.{Part, literal}
use Rattle.like_patterns.specs.Pieces.{literals, parts_of, piece_parts}
use Rattle.like_patterns.specs.Texts.{part_text, pattern_text, quotable, quotable_text}
use Rattle.like_patterns.proofs.Stripping.{parts_of-push}

pattern_text-append : (xs ys : List Part) → pattern_text (xs ++ ys) ≡ pattern_text xs ++ pattern_text ys
pattern_text-append [] ys = refl
pattern_text-append (x ∷ xs) ys = ap (λ (l : List ℕ). part_text x ++ l) (pattern_text-append xs ys) ∙ sym (append_assoc (part_text x) (pattern_text xs) (pattern_text ys))

text-append : (quote : Option ℕ) (xs ys : List Part) → quotable_text quote (pattern_text xs) ++ quotable_text quote (pattern_text ys) ≡ quotable_text quote (pattern_text (xs ++ ys))
text-append quote xs ys = sym (flat_map-append (quotable quote) (pattern_text xs) (pattern_text ys)) ∙ ap (quotable_text quote) (sym (pattern_text-append xs ys))

pub text_push : (quote : Option ℕ) (cs : List ℕ) (c : ℕ) → quotable_text quote (pattern_text (literals cs)) ++ quotable_text quote (part_text (literal c)) ≡ quotable_text quote (pattern_text (literals (cs ++ c ∷ [])))
text_push quote cs c =
    ap (λ (l : List ℕ). quotable_text quote (pattern_text (literals cs)) ++ quotable_text quote l) (sym (append-nil (part_text (literal c))))
    ∙ text-append quote (literals cs) (literal c ∷ []) ∙ ap (λ (l : List Part). quotable_text quote (pattern_text l)) (sym (map-append literal cs (c ∷ [])))

pub pieces_more : (quote : Option ℕ) (items : List Piece) (i : ℕ) (piece : Piece) → i < length items → piece ≡ get_or items i piece
    → quotable_text quote (pattern_text (parts_of Sensitive (take i items))) ++ quotable_text quote (pattern_text (piece_parts Sensitive piece)) ≡ quotable_text quote (pattern_text (parts_of Sensitive (take (i + 1) items)))
pieces_more quote items i piece below is =
    text-append quote (parts_of Sensitive (take i items)) (piece_parts Sensitive piece)
    ∙ ap (λ (l : List Part). quotable_text quote (pattern_text l)) (sym (parts_of-push Sensitive (take i items) piece))
    ∙ ap (λ (l : List Piece). quotable_text quote (pattern_text (parts_of Sensitive l))) (ap (λ (p : Piece). take i items ++ p ∷ []) is ∙ sym (take_more items i piece below))

pub without_quote : (cs : List ℕ) → quotable_text None cs ≡ encode_utf8_all cs
without_quote [] = refl
without_quote (c ∷ cs) = ap (λ (l : List ℕ). quotable None c ++ l) (without_quote cs)
