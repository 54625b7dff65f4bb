-- Characters that stand for themselves, and one character.
use Rattle.std.proofs.lemmas.Str.{IsUtf8-string_bytes}
use Rattle.std.specs.String.{string_bytes}
use Rattle.like_patterns.proofs.Stripping.{one_after, text_after, text_after_utf8}
use Rattle.like_patterns.proofs.pieces.Fixed.after.Goals as goal

pub returns-in-Text-clause-rest : goal.returns-in-Text-clause-rest
returns-in-Text-clause-rest c =
    rw c.in-Text.is (text_after c.args.case c.args.text.now (string_bytes c.in-Text.wanted.string) c.after.result c.requires (IsUtf8-string_bytes c.in-Text.wanted.string) c.after.ensures)

pub returns-in-Text-clause-utf8 : goal.returns-in-Text-clause-utf8
returns-in-Text-clause-utf8 c =
    text_after_utf8 c.args.case c.args.text.now (string_bytes c.in-Text.wanted.string) c.after.result c.requires (IsUtf8-string_bytes c.in-Text.wanted.string) c.after.ensures

pub returns-in-AnyCharacter-clause-rest : goal.returns-in-AnyCharacter-clause-rest
returns-in-AnyCharacter-clause-rest c =
    rw c.in-AnyCharacter.is (one_after c.args.case c.args.text.now c.after_character.result c.requires c.after_character.ensures.rest)
