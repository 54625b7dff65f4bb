use Rattle.std.proofs.Common.{◌-◌, arith}
use Rattle.std.proofs.lemmas.Nat.{and_le_l}
use Rattle.arrow_columns.proofs.SpanSteps.{masked}
use Rattle.arrow_columns.proofs.byte_spans.front_of.Goals as goal

pub returns : goal.returns
returns c = omega (arith, masked c.args.word c.rest_of.result (8 - c.args.count) c.rest_of.ensures, and_le_l c.args.word c.rest_of.result)
