use Rattle.std.proofs.lemmas.Bool.Decides.{same_from_decides}
use Rattle.vortex_dtype.specs.TypeOf.{type_of}
use Rattle.vortex_value.specs.Lemmas.EqualityLaws.{same_type-Decides}
use Rattle.vortex_filter.proofs.prefix.are_same.Goals as goal

pub returns : goal.returns
returns c = same_from_decides _ _ c.eq_ignore_nullability.ensures (same_type-Decides (type_of c.args.a.now) (type_of c.args.b.now))
