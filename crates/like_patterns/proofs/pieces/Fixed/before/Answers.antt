-- Characters that stand for themselves, and one character.
use Rattle.std.proofs.lemmas.Str.{IsUtf8-string_bytes}
use Rattle.std.specs.String.{string_bytes}
use Rattle.like_patterns.proofs.Stripping.{one_before, text_before, text_before_utf8}
use Rattle.like_patterns.proofs.pieces.Fixed.before.Goals as goal

pub returns-in-Text-clause-front : goal.returns-in-Text-clause-front
returns-in-Text-clause-front c =
    rw c.in-Text.is
    (text_before c.args.case c.args.text.now (string_bytes c.in-Text.wanted.string) c.before-in-Text.result c.requires (IsUtf8-string_bytes c.in-Text.wanted.string) c.before-in-Text.ensures)

pub returns-in-Text-clause-utf8 : goal.returns-in-Text-clause-utf8
returns-in-Text-clause-utf8 c =
    text_before_utf8 c.args.case c.args.text.now (string_bytes c.in-Text.wanted.string) c.before-in-Text.result c.requires (IsUtf8-string_bytes c.in-Text.wanted.string) c.before-in-Text.ensures

pub returns-in-AnyCharacter-clause-front : goal.returns-in-AnyCharacter-clause-front
returns-in-AnyCharacter-clause-front c =
    rw c.in-AnyCharacter.is (one_before c.args.case c.args.text.now c.before_character.result c.requires c.before_character.ensures)
