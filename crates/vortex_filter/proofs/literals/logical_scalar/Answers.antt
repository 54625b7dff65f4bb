-- The scalar stores the value.
use Rattle.std.proofs.Common.{◌≡◌, ℤ, arith, of_z, refl, subst, to_z}
use mir.Syntax.{w128}
use Rattle.std.proofs.lemmas.Int.{ints}
use Rattle.vortex_dtype.specs.TypeOf.{type_of}
use Rattle.vortex_value.specs.Values.Scalars.{IsMadeOf}
use Rattle.logical_scalars.specs.Stored.{raw_storage}
use Rattle.logical_types.specs.Extensions.{storage_type_of}
use Rattle.vortex_filter.proofs.LiteralTypes.{made_cell}
use Rattle.vortex_filter.proofs.MemorySteps.{not_flat}
use Rattle.vortex_filter.proofs.literals.logical_scalar.Goals as goal

pub returns-in-Ok-clause-cell : goal.returns-in-Ok-clause-cell
returns-in-Ok-clause-cell c =
    let e : to_z w128 (of_z w128 c.args.storage) ≡ c.args.storage = omega (arith, ints) in
    made_cell (type_of c.args.dtype.now) c.args.logical c.args.storage c.in-Ok.scalar
    (subst (λ (z : ℤ). IsMadeOf (type_of c.args.dtype.now) (raw_storage (storage_type_of c.args.logical) z) c.in-Ok.scalar) e c.in-Ok.ensures.made)

pub returns-in-Err-clause-refused : goal.returns-in-Err-clause-refused
returns-in-Err-clause-refused c = (refl, not_flat (type_of c.args.dtype.now) c.args.logical c.requires.is)
