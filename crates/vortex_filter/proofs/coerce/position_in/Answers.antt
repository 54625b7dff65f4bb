use Rattle.std.proofs.Common.{inl, sym, ◌∙◌}
use Rattle.vortex_dtype.specs.TypeOf.{type_of}
use Rattle.vortex_value.specs.Lemmas.EqualityLaws.{same_type-Decides}
use Rattle.vortex_value.specs.Values.Scalars.{scalar_type}
use Rattle.vortex_filter.proofs.CoerceSteps.{copied_stands, invalid_stands}
use Rattle.vortex_filter.proofs.coerce.position_in.Goals as goal

pub returns-in-Ok-clause-made : goal.returns-in-Ok-clause-made
returns-in-Ok-clause-made c = copied_stands (type_of c.args.dtype.now) c.args.column c.args.literal.now c.in-Ok.copy (sym c.is_of_type.ensures ∙ c.if-is_of_type.true) c.in-Ok.ensures.made c.in-Ok.ensures.exactly

pub returns-then-not-is_valid-clause-made : goal.returns-then-not-is_valid-clause-made
returns-then-not-is_valid-clause-made c = invalid_stands (type_of c.args.dtype.now) c.args.column c.args.literal.now c.is_valid.result (sym c.is_of_type.ensures ∙ c.if-is_of_type.false) c.is_valid.ensures c.if-not-is_valid.true

pub returns-in-Err-clause-asked : goal.returns-in-Err-clause-asked
returns-in-Err-clause-asked c = λ is. inl ((same_type-Decides (type_of c.args.dtype.now) (scalar_type c.args.literal.now)).0 (sym c.is_of_type.ensures ∙ c.if-is_of_type.true))
