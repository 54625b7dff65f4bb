-- One part more.
use Rattle.std.proofs.Common.{get_or}
use Rattle.std.proofs.lemmas.List.{get_or_default}
use Rattle.filter_encoding.specs.declared.patterns.PatternPart.TheVariants.{Character}
use Rattle.filter_encoding.proofs.PatternSteps.{text_more}
use Rattle.filter_encoding.proofs.patterns.text_of.Goals as goal

pub loop-part-preserved : goal.loop-part-preserved
loop-part-preserved c =
    let i = c.loop-part.part-index in
    let part = get_or c.args.parts.now i (Character 0) in
    text_more c.args.parts.now i part _ _ c.loop-part-test.true (get_or_default c.args.parts.now i (Character 0) part c.loop-part-test.true) c.loop-part.invariant c.in_ok-push_part.ensures.text
