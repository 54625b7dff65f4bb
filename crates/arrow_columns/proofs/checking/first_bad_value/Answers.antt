use Rattle.std.proofs.Common.{arith, of_z, to_z, ℤ, List, Option}
use Rattle.std.proofs.lemmas.Int.{ints}
use Rattle.std.specs.Int.{w128}
use Rattle.arrow_columns.specs.Columns.{item_cells}
use Rattle.arrow_columns.proofs.FormatSteps.{floats_are, found}
use Rattle.arrow_columns.proofs.RangeSteps.{found_same}
use Rattle.arrow_columns.proofs.checking.first_bad_value.Goals as goal

pub returns-in-Float32 : goal.returns-in-Float32
returns-in-Float32 c = floats_are c.args.format c.args.rows.column c.in-Float32.is

pub returns-in_default : goal.returns-in_default
returns-in_default c =
    let column = c.args.rows.column in
    let cells : List (Option ℤ) = item_cells c.args.rows.kind column in
    let least : ℤ = c.storages_of-least.result.0 in
    let greatest : ℤ = c.storages_of-least.result.1 in
    found c.args.format c.args.logical c.args.rows.kind column least greatest c.first_outside.result c.requires.items c.requires.logical c.storages_of-least.ensures
    (found_same (to_z w128 (of_z w128 least)) (to_z w128 (of_z w128 greatest)) least greatest cells column.length c.first_outside.result
    (omega (arith, ints)) (omega (arith, ints)) c.first_outside.ensures)
