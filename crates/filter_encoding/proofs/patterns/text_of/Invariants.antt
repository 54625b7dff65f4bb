-- The text of the parts so far.
use Rattle.std.proofs.Common.{◌≡◌, map, take}
use Rattle.std.specs.Str.{encode_utf8_all}
use Rattle.std.specs.String.{string_bytes}
use Rattle.like_patterns.specs.Texts.{pattern_text}
use Rattle.filter_encoding.specs.Patterns.{part_of}
use Rattle.filter_encoding.proofs.patterns.text_of.Given as goal

abbrev pub invariant-loop-part : goal.invariant-loop-part
invariant-loop-part l = string_bytes l.text ≡ encode_utf8_all (pattern_text (map part_of (take l.part-index l.parts)))
