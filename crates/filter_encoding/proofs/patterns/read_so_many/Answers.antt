-- One more is read, or is none.
use Rattle.std.proofs.Common.{arith}
use Rattle.like_patterns.specs.Patterns.{any_string}
use Rattle.filter_encoding.specs.Lists.{AreSo, each_bytes}
use Rattle.filter_encoding.specs.Patterns.{IsPart, part_bytes, part_of}
use Rattle.filter_encoding.proofs.ListLaws.{loop_end, loop_more, loop_start, loop_stuck}
use Rattle.filter_encoding.proofs.PartLaws.{null_part, parts_apart}
use Rattle.filter_encoding.proofs.ReadSteps.{passed_on}
use Rattle.filter_encoding.proofs.patterns.read_so_many.Goals as goal

pub loop-taken-init : goal.loop-taken-init
loop-taken-init c = loop_start part_bytes IsPart part_of _ _ c.new-parts.ensures.items

pub loop-taken-preserved : goal.loop-taken-preserved
loop-taken-preserved c = loop_more part_bytes IsPart part_of c.loop-taken.taken _ c.loop-taken.parts.items _ c.in_ok-part.part _ _ _ (omega arith) c.loop-taken.invariant c.in_ok-part.ensures c.in_ok-push.ensures.items

pub returns-in_err-part : goal.returns-in_err-part
returns-in_err-part c =
    passed_on (each_bytes part_bytes) (AreSo c.args.count IsPart) _ _ _ _ _ c.from_residual.ensures
    (λ bad. loop_stuck part_bytes IsPart part_of parts_apart any_string null_part c.loop-taken.taken c.args.count c.loop-taken.parts.items _ _ _ c.loop-taken-test.true c.loop-taken.invariant (c.in_err-part.ensures bad))

pub returns : goal.returns
returns c = loop_end part_bytes IsPart part_of c.loop-taken.taken c.args.count c.loop-taken.parts.items _ _ c.loop-taken.auto.taken-end c.loop-taken-test.false c.loop-taken.invariant
