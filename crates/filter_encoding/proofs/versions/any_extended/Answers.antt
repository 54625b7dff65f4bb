-- Those so far do not pass.
use Rattle.vortex_cells.specs.Cells.{cell_of}
use Rattle.filter_encoding.specs.Encoding.{is_extended}
use Rattle.filter_encoding.proofs.ValueLaws.{any-here, any-rest}
use Rattle.filter_encoding.proofs.versions.any_extended.Goals as goal

pub returns-then-is_extension : goal.returns-then-is_extension
returns-then-is_extension c =
    any-here cell_of is_extended c.loop-literal.literal-index c.args.literals.now c.literal-item.result _ _ c.loop-literal-test.true c.literal-item.is c.is_extension.ensures c.if-is_extension.true c.loop-literal.invariant

pub loop-literal-preserved : goal.loop-literal-preserved
loop-literal-preserved c =
    any-rest cell_of is_extended c.loop-literal.literal-index c.args.literals.now c.literal-item.result _ _ c.loop-literal-test.true c.literal-item.is c.is_extension.ensures c.if-is_extension.false c.loop-literal.invariant
