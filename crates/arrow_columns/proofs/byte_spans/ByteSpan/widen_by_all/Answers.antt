use Rattle.std.proofs.Common.{refl}
use Rattle.arrow_columns.proofs.ByteOrder.{below_says, goes_on, not_below_says}
use Rattle.arrow_columns.proofs.SpanSteps.{widens_inside}
use Rattle.arrow_columns.proofs.byte_spans.ByteSpan.widen_by_all.Goals as goal

pub between-requires : goal.between-requires
between-requires c =
    let value = c.args.value.now in
    let low = c.args.self.now.low.now in
    goes_on value low c.args.self.now.high.now (below_says value low value low c.is_below.result c.is_below.ensures refl refl c.if-is_below.true) c.requires.order

pub between-requires-then-is_below-2 : goal.between-requires-then-is_below-2
between-requires-then-is_below-2 c =
    let value = c.args.value.now in
    let high = c.args.self.now.high.now in
    goes_on c.args.self.now.low.now high value c.requires.order (below_says high value high value c.is_below-else-is_below.result c.is_below-else-is_below.ensures refl refl c.if-is_below-2.true)

pub returns-else-is_below-2-clause-widened : goal.returns-else-is_below-2-clause-widened
returns-else-is_below-2-clause-widened c =
    let value = c.args.value.now in
    let low = c.args.self.now.low.now in
    let high = c.args.self.now.high.now in
    widens_inside value c.args.row c.args.self.now (not_below_says value low value low c.is_below.result c.is_below.ensures refl refl c.if-is_below.false) (not_below_says high value high value c.is_below-else-is_below.result c.is_below-else-is_below.ensures refl refl c.if-is_below-2.false)
