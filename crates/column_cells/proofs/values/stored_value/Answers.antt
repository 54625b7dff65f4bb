-- A number is stored by the storage of its format.
use mir.Syntax.{w128}
use Rattle.std.proofs.Common.{◌≡◌, arith, of_z, to_z}
use Rattle.std.proofs.lemmas.Int.{ints}
use Rattle.vortex_value.specs.Values.RawOf.{value_tree}
use Rattle.column_cells.proofs.FormatValues.{null_valid, number_fits, stored_content_is, stored_is_valid}
use Rattle.column_cells.proofs.values.stored_value.Goals as goal

pub stored-requires : goal.stored-requires
stored-requires c =
    let same : c.in-Some.number ≡ to_z w128 (of_z w128 c.in-Some.number) = omega (arith, ints) in
    number_fits c.args.format c.storage_of_format.result c.in-Some.number _ c.args.cell c.in-Some.is same c.storage_of_format.ensures c.requires.sound c.requires.value

pub returns-in-Some-clause-content : goal.returns-in-Some-clause-content
returns-in-Some-clause-content c =
    let same : c.in-Some.number ≡ to_z w128 (of_z w128 c.in-Some.number) = omega (arith, ints) in
    stored_content_is c.args.format c.storage_of_format.result c.in-Some.number _ (value_tree c.stored.result) c.args.cell c.in-Some.is same c.storage_of_format.ensures c.stored.ensures

pub returns-in-Some-clause-valid : goal.returns-in-Some-clause-valid
returns-in-Some-clause-valid c =
    let same : c.in-Some.number ≡ to_z w128 (of_z w128 c.in-Some.number) = omega (arith, ints) in
    stored_is_valid c.args.format c.storage_of_format.result _ (value_tree c.stored.result)
    (number_fits c.args.format c.storage_of_format.result c.in-Some.number _ c.args.cell c.in-Some.is same c.storage_of_format.ensures c.requires.sound c.requires.value) c.storage_of_format.ensures c.stored.ensures

pub returns-in-None-clause-valid : goal.returns-in-None-clause-valid
returns-in-None-clause-valid c = null_valid c.args.format
