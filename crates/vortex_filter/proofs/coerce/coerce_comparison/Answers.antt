use Rattle.std.proofs.Common.{◌≡◌, ◌∷◌, [], map, slice_get, Some, rules}
use Rattle.vortex_dtype.specs.TypeOf.{type_of}
use Rattle.vortex_value.specs.TypesWithin.{HasNoVariant}
use Rattle.vortex_filter.specs.Checking.{comparing}
use Rattle.vortex_filter.specs.CoerceMemory.{test_task}
use Rattle.vortex_filter.proofs.CoerceMemorySteps.{comparison_asked, unordered_asked}
use Rattle.vortex_filter.proofs.CoerceSteps.{NoOrdered, comparison_column, comparison_refused}
use Rattle.vortex_filter.proofs.coerce.coerce_comparison.Goals as goal

pub returns-in-Ok-clause-made : goal.returns-in-Ok-clause-made
returns-in-Ok-clause-made c =
    let ordered : (slice_get (map type_of c.args.columns.now) c.args.column ≡ Some (type_of c.in-Ok.dtype.now)) × HasNoVariant (type_of c.in-Ok.dtype.now) = search rules in
    comparison_column (map type_of c.args.columns.now) c.args.column (type_of c.in-Ok.dtype.now) c.comparison_in.result c.args.operator c.args.literal.now ordered c.comparison_in.ensures.made

pub returns-in-Err-clause-made : goal.returns-in-Err-clause-made
returns-in-Err-clause-made c =
    let refused : NoOrdered (map type_of c.args.columns.now) c.args.column c.in-Err.cause = search rules in
    comparison_refused (map type_of c.args.columns.now) c.args.column c.in-Err.cause c.args.operator c.args.literal.now refused

pub returns-in-Ok-clause-asked : goal.returns-in-Ok-clause-asked
returns-in-Ok-clause-asked c =
    let ordered : (slice_get (map type_of c.args.columns.now) c.args.column ≡ Some (type_of c.in-Ok.dtype.now)) × HasNoVariant (type_of c.in-Ok.dtype.now) = search rules in
    comparison_asked (map type_of c.args.columns.now) c.args.column (type_of c.in-Ok.dtype.now) c.comparison_in.result c.args.operator c.args.literal.now ordered c.comparison_in.ensures.made c.comparison_in.ensures.asked

pub returns-in-Err-clause-asked : goal.returns-in-Err-clause-asked
returns-in-Err-clause-asked c =
    let refused : NoOrdered (map type_of c.args.columns.now) c.args.column c.in-Err.cause = search rules in
    unordered_asked (map type_of c.args.columns.now) c.args.column (test_task c.args.column (comparing (c.args.literal.now ∷ [])) ∷ []) c.in-Err.cause refused
