use Rattle.std.proofs.Common.{◌≡◌, None, Some, ap, ◌∙◌, rules}
use Rattle.vortex_dtype.specs.TypeOf.{type_of, variants_of}
use Rattle.vortex_dtype.specs.declared.types.DType.{Union}
use Rattle.vortex_value.specs.Makers.{union_cause, union_of}
use Rattle.vortex_value.specs.Values.RawTree.{raw_union}
use Rattle.vortex_value.specs.Values.Scalars.{IsValid, scalar_raw}
use Rattle.vortex_value.proofs.MakerLaws.{union_spares, union_valid, scalar_valid, valued_with}
use Rattle.vortex_dtype.specs.Lemmas.TypeLevels.{type_of-Union}
use Rattle.vortex_value.proofs.scalars.Scalar.union.Goals as goal

pub returns-clause-valid : goal.returns-clause-valid
returns-clause-valid c =
    let variants = variants_of c.args.variants in
    let id = c.args.type_id in
    let dtype = Union c.args.variants c.args.nullability in
    let raw = raw_union c.args.type_id (scalar_raw c.args.child) in
    let accepted : union_cause (variants_of c.args.variants) c.args.type_id (type_of c.args.child.dtype) ≡ None = search rules in
    let child = union_valid variants id (type_of c.args.child.dtype) (scalar_raw c.args.child) accepted c.requires in
    valued_with _ dtype c.union_value-value.result c.with_value.result raw IsValid c.with_value.ensures c.union_value-value.ensures
    (λ x made. scalar_valid dtype x (union_of variants c.args.nullability) raw (type_of-Union c.args.variants c.args.nullability) made child)

pub returns-in-Err-clause-childless : goal.returns-in-Err-clause-childless
returns-in-Err-clause-childless c absent same =
    union_spares (variants_of c.args.variants) c.args.type_id (type_of c.args.child.dtype) (c.in-Err.ensures ∙ ap Some same)
