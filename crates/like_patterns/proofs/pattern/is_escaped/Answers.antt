-- Characters are escaped as their bytes are.
use Rattle.std.proofs.Common.{◌∙◌, ap, sym}
use Rattle.std.proofs.lemmas.Str.{IsUtf8-string_bytes}
use Rattle.std.specs.List.{list_any}
use Rattle.std.specs.String.{string_bytes}
use Rattle.like_patterns.specs.declared.case.Case.TheVariants.{Sensitive}
use Rattle.like_patterns.specs.declared.pieces.Piece.{Piece}
use Rattle.like_patterns.specs.declared.pieces.Piece.TheVariants as pieces
use Rattle.like_patterns.specs.Pieces.{piece_parts}
use Rattle.like_patterns.specs.Texts.{has_special, is_special}
use Rattle.like_patterns.proofs.Escaping.{special_text}
use Rattle.like_patterns.proofs.pattern.is_escaped.Goals as goal

pub returns-in-Text : goal.returns-in-Text
returns-in-Text c =
    c.has_special.ensures ∙ ap (list_any is_special) c.as_bytes.ensures.value ∙ special_text (string_bytes c.in-Text.text.string) (IsUtf8-string_bytes c.in-Text.text.string)
    ∙ sym (ap (λ (p : Piece). has_special (piece_parts Sensitive p)) (c.in-Fixed.is ∙ ap pieces.Fixed c.in-Text.is))
