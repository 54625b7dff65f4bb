-- What is written, and what is left.
use Rattle.std.proofs.Common.{drop, map}
use Rattle.filter_encoding.specs.Patterns.{IsPart, part_bytes, part_of}
use Rattle.filter_encoding.proofs.ListLaws.{IsLeft}
use Rattle.filter_encoding.proofs.patterns.append_parts.Given as goal

abbrev pub invariant-loop-part : goal.invariant-loop-part
invariant-loop-part l = IsLeft part_bytes IsPart IsPart (map part_of (drop l.part-index l.parts)) (map part_of l.parts) l.initial.out.items l.out.items
