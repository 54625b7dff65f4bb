use Rattle.std.proofs.Common.{rules}
use Rattle.logical_types.specs.Extensions.{id_of, metadata_of, storage_type_of}
use Rattle.vortex_dtype.specs.TypeOf.{type_of}
use Rattle.column_cells.proofs.TypeSteps.{tests_same}
use Rattle.column_cells.proofs.types.is_type_of_logical.Goals as goal

pub returns : goal.returns
returns c =
    let logical = c.args.logical in
    tests_same (id_of logical) (metadata_of logical) _ _ (storage_type_of logical) _ (type_of c.args.dtype.now) _ c.extension_id.ensures (search rules) c.storage_type.ensures c.is_extension.ensures
