use Rattle.std.proofs.Common.{subst}
use Rattle.std.specs.List.{All}
use Rattle.std.proofs.lemmas.List.{take_all}
use Rattle.std.proofs.lemmas.List.Elements.{All-more}
use Rattle.vortex_value.specs.Values.Scalars.{IsValid}
use Rattle.case_lines.proofs.valid.validate_all.Goals as goal

pub loop-scalar-preserved : goal.loop-scalar-preserved
loop-scalar-preserved c =
    All-more IsValid _ _ c.scalar-item.result c.loop-scalar-test.true c.loop-scalar.invariant
    (subst IsValid c.scalar-item.is c.in_ok-validate.ensures)

pub returns : goal.returns
returns c =
    subst (All IsValid) (take_all _ _ c.loop-scalar-test.false) c.loop-scalar.invariant
