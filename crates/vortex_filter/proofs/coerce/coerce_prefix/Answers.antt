use Rattle.std.proofs.Common.{◌≡◌, ◌∷◌, [], map, slice_get, Some, rules}
use Rattle.vortex_dtype.specs.TypeOf.{type_of}
use Rattle.vortex_value.specs.TypesWithin.{HasNoVariant}
use Rattle.vortex_filter.specs.Checking.{beginning}
use Rattle.vortex_filter.specs.CoerceMemory.{test_task}
use Rattle.vortex_filter.proofs.CoerceMemorySteps.{prefix_asked, unordered_asked}
use Rattle.vortex_filter.proofs.CoerceSteps.{NoOrdered, prefix_column, prefix_refused}
use Rattle.vortex_filter.proofs.coerce.coerce_prefix.Goals as goal

pub returns-in-Ok-clause-made : goal.returns-in-Ok-clause-made
returns-in-Ok-clause-made c =
    let ordered : (slice_get (map type_of c.args.columns.now) c.args.column ≡ Some (type_of c.in-Ok.dtype.now)) × HasNoVariant (type_of c.in-Ok.dtype.now) = search rules in
    prefix_column (map type_of c.args.columns.now) c.args.column (type_of c.in-Ok.dtype.now) c.prefix_in.result c.args.prefix.now ordered c.prefix_in.ensures.made

pub returns-in-Err-clause-made : goal.returns-in-Err-clause-made
returns-in-Err-clause-made c =
    let refused : NoOrdered (map type_of c.args.columns.now) c.args.column c.in-Err.cause = search rules in
    prefix_refused (map type_of c.args.columns.now) c.args.column c.in-Err.cause c.args.prefix.now refused

pub returns-in-Ok-clause-asked : goal.returns-in-Ok-clause-asked
returns-in-Ok-clause-asked c =
    let ordered : (slice_get (map type_of c.args.columns.now) c.args.column ≡ Some (type_of c.in-Ok.dtype.now)) × HasNoVariant (type_of c.in-Ok.dtype.now) = search rules in
    prefix_asked (map type_of c.args.columns.now) c.args.column (type_of c.in-Ok.dtype.now) c.prefix_in.result c.args.prefix.now ordered c.prefix_in.ensures.made c.prefix_in.ensures.asked

pub returns-in-Err-clause-asked : goal.returns-in-Err-clause-asked
returns-in-Err-clause-asked c =
    let refused : NoOrdered (map type_of c.args.columns.now) c.args.column c.in-Err.cause = search rules in
    unordered_asked (map type_of c.args.columns.now) c.args.column (test_task c.args.column (beginning c.args.prefix.now) ∷ []) c.in-Err.cause refused
