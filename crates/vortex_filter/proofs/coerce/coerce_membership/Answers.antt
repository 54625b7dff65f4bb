use Rattle.std.proofs.Common.{◌≡◌, ◌∷◌, [], map, slice_get, Some, rules}
use Rattle.vortex_dtype.specs.TypeOf.{type_of}
use Rattle.vortex_value.specs.TypesWithin.{HasNoVariant}
use Rattle.vortex_filter.specs.CoerceMemory.{list_task}
use Rattle.vortex_filter.proofs.CoerceMemorySteps.{membership_asked, unordered_asked}
use Rattle.vortex_filter.proofs.CoerceSteps.{NoOrdered}
use Rattle.vortex_filter.proofs.coerce.coerce_membership.Goals as goal

pub returns-in-Ok-clause-asked : goal.returns-in-Ok-clause-asked
returns-in-Ok-clause-asked c =
    let ordered : (slice_get (map type_of c.args.columns.now) c.args.column ≡ Some (type_of c.in-Ok.dtype.now)) × HasNoVariant (type_of c.in-Ok.dtype.now) = search rules in
    membership_asked (map type_of c.args.columns.now) c.args.column (type_of c.in-Ok.dtype.now) c.membership_in.result c.args.literals.now ordered c.membership_in.ensures.made c.membership_in.ensures.asked

pub returns-in-Err-clause-asked : goal.returns-in-Err-clause-asked
returns-in-Err-clause-asked c =
    let refused : NoOrdered (map type_of c.args.columns.now) c.args.column c.in-Err.cause = search rules in
    unordered_asked (map type_of c.args.columns.now) c.args.column (list_task c.args.column c.args.literals.now ∷ []) c.in-Err.cause refused
