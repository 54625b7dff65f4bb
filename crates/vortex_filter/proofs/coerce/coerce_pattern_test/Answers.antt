use Rattle.std.proofs.Common.{◌≡◌, ◌∷◌, [], map, slice_get, Some, rules}
use Rattle.vortex_dtype.specs.TypeOf.{type_of}
use Rattle.vortex_value.specs.TypesWithin.{HasNoVariant}
use Rattle.vortex_filter.specs.Checking.{matching}
use Rattle.vortex_filter.specs.CoerceMemory.{test_task}
use Rattle.vortex_filter.proofs.CoerceMemorySteps.{pattern_asked, unordered_asked}
use Rattle.vortex_filter.proofs.CoerceSteps.{NoOrdered, pattern_column, pattern_refused}
use Rattle.vortex_filter.proofs.coerce.coerce_pattern_test.Goals as goal

pub returns-in-Ok-clause-made : goal.returns-in-Ok-clause-made
returns-in-Ok-clause-made c =
    let ordered : (slice_get (map type_of c.args.columns.now) c.args.column ≡ Some (type_of c.in-Ok.dtype.now)) × HasNoVariant (type_of c.in-Ok.dtype.now) = search rules in
    pattern_column (map type_of c.args.columns.now) c.args.column (type_of c.in-Ok.dtype.now) c.pattern_test_in.result c.args.case c.args.pattern.now ordered c.pattern_test_in.ensures.made

pub returns-in-Err-clause-made : goal.returns-in-Err-clause-made
returns-in-Err-clause-made c =
    let refused : NoOrdered (map type_of c.args.columns.now) c.args.column c.in-Err.cause = search rules in
    pattern_refused (map type_of c.args.columns.now) c.args.column c.in-Err.cause c.args.case c.args.pattern.now refused

pub returns-in-Ok-clause-asked : goal.returns-in-Ok-clause-asked
returns-in-Ok-clause-asked c =
    let ordered : (slice_get (map type_of c.args.columns.now) c.args.column ≡ Some (type_of c.in-Ok.dtype.now)) × HasNoVariant (type_of c.in-Ok.dtype.now) = search rules in
    pattern_asked (map type_of c.args.columns.now) c.args.column (type_of c.in-Ok.dtype.now) c.pattern_test_in.result c.args.case c.args.pattern.now ordered c.pattern_test_in.ensures.made c.pattern_test_in.ensures.asked

pub returns-in-Err-clause-asked : goal.returns-in-Err-clause-asked
returns-in-Err-clause-asked c =
    let refused : NoOrdered (map type_of c.args.columns.now) c.args.column c.in-Err.cause = search rules in
    unordered_asked (map type_of c.args.columns.now) c.args.column (test_task c.args.column matching ∷ []) c.in-Err.cause refused
