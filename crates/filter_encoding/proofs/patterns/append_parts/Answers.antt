-- One more is written.
use Rattle.std.proofs.Common.{get_or, map, arith}
use Rattle.std.proofs.lemmas.List.{get_or_default}
use Rattle.std.specs.List.{AllByRecursion}
use Rattle.filter_encoding.specs.Patterns.{IsPart, part_bytes, part_of}
use Rattle.filter_encoding.specs.declared.patterns.PatternPart.TheVariants.{Character}
use Rattle.filter_encoding.proofs.ListLaws.{left_end, left_item, left_more, left_start}
use Rattle.filter_encoding.proofs.WriteSteps.{begins_on, passed_on}
use Rattle.filter_encoding.proofs.patterns.append_parts.Goals as goal

pub loop-part-init : goal.loop-part-init
loop-part-init c = left_start part_bytes IsPart IsPart (map part_of c.args.parts.now) _

pub append_part-requires : goal.append_part-requires
append_part-requires c =
    let i = c.loop-part.part-index in
    let part = get_or c.args.parts.now i (Character 0) in
    left_item part_bytes IsPart IsPart part_of i c.args.parts.now part _ _ c.loop-part-test.true (get_or_default c.args.parts.now i (Character 0) part c.loop-part-test.true) c.loop-part.invariant c.requires

pub loop-part-preserved : goal.loop-part-preserved
loop-part-preserved c =
    let i = c.loop-part.part-index in
    let part = get_or c.args.parts.now i (Character 0) in
    left_more part_bytes IsPart IsPart part_of i _ c.args.parts.now part _ _ _ (omega arith) c.loop-part-test.true (get_or_default c.args.parts.now i (Character 0) part c.loop-part-test.true) c.loop-part.invariant c.in_ok-append_part.ensures

pub returns-in_err-append_part : goal.returns-in_err-append_part
returns-in_err-append_part c =
    let i = c.loop-part.part-index in
    let part = get_or c.args.parts.now i (Character 0) in
    let w = c.in_err-append_part.ensures in
    passed_on _ (IsPart (part_of part)) (AllByRecursion IsPart (map part_of c.args.parts.now)) _ _ _ _ _ c.from_residual.ensures
    (left_item part_bytes IsPart IsPart part_of i c.args.parts.now part _ _ c.loop-part-test.true (get_or_default c.args.parts.now i (Character 0) part c.loop-part-test.true) c.loop-part.invariant) w.0 (begins_on _ _ _ c.loop-part.invariant.begins w.1)

pub returns : goal.returns
returns c = left_end part_bytes IsPart IsPart part_of c.loop-part.part-index c.args.parts.now _ _ c.loop-part-test.false c.loop-part.invariant
