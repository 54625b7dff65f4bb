-- A connective that may stand here, or may not.
use Rattle.std.proofs.Common.{◌++◌, ◌∷◌, [], ◌∙◌, ap, arith}
use Rattle.filter_encoding.proofs.WriteSteps.{begins_itself}
use Rattle.filter_encoding.proofs.writing.append_connective.Goals as goal

pub returns-then-depth-eq0 : goal.returns-then-depth-eq0
returns-then-depth-eq0 c = (λ less. omega (arith, less, c.if-depth-eq0.true), begins_itself _)

pub returns : goal.returns
returns c = (omega (arith, c.if-depth-eq0.false), c.in_ok-append_byte.ensures.1 ∙ ap (λ b. c.args.out.now.items ++ b ∷ []) c.byte.ensures)
