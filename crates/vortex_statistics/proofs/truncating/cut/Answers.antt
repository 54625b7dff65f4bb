-- What the best bound of a value makes of its bound.
use Rattle.std.proofs.Common.{◌≡◌, Bool, Option, Some, Result, Ok, refl, sym, ap, subst, ◌∙◌}
use Rattle.vortex_dtype.specs.TypeOf.{type_of}
use Rattle.vortex_dtype.specs.TypeTree.{nullability_of}
use Rattle.vortex_dtype.specs.declared.error.VortexError.{VortexError}
use Rattle.vortex_value.specs.Values.Scalars.{scalar_type}
use Rattle.vortex_value.specs.declared.scalars.Scalar.{Scalar}
use Rattle.vortex_statistics.specs.Kinds.{IsBestAnswer, IsCutAt}
use Rattle.vortex_statistics.specs.declared.column_statistics.Bound.{Bound}
use Rattle.vortex_statistics.proofs.CutSteps.{cut_refused, cut_step}
use Rattle.vortex_statistics.proofs.truncating.cut.Goals as goal

pub returns-in-Ok-Some-clause-value : goal.returns-in-Ok-Some-clause-value
returns-in-Ok-Some-clause-value g c =
    let kept : c.nullability-nullability.result ≡ nullability_of (scalar_type c.args.bound.value) = c.nullability-nullability.ensures ∙ ap (λ d. nullability_of (type_of d)) c.dtype.ensures in
    let x : Scalar × Bool = (c.in-Ok-Some.value, c.in-Ok-Some.cut) in
    let wrap : Option (Scalar × Bool) → Result (Option (Scalar × Bool)) VortexError = λ r. Ok r in
    let P : Result (Option (Scalar × Bool)) VortexError → Type 0 = λ r. IsBestAnswer c.args.side g.T.ScalarTruncation.IsBestLower g.T.ScalarTruncation.IsBestUpper g.T.ScalarTruncation.HasNoBestUpper g.T.ScalarTruncation.raw_at g.T.ScalarTruncation.type_at g.T.ScalarTruncation.bytes c.in-Ok.value c.args.n c.nullability-nullability.result r in
    let answer : IsBestAnswer c.args.side g.T.ScalarTruncation.IsBestLower g.T.ScalarTruncation.IsBestUpper g.T.ScalarTruncation.HasNoBestUpper g.T.ScalarTruncation.raw_at g.T.ScalarTruncation.type_at g.T.ScalarTruncation.bytes c.in-Ok.value c.args.n c.nullability-nullability.result (Ok (Some x)) = subst P (c.in-Ok-Some.is ∙ ap wrap c.in-Ok-Some.field-0-is) c.best_bound.ensures in
    let Q : Bound → Type 0 = λ d. IsCutAt c.args.side g.T.ScalarTruncation.IsBestLower g.T.ScalarTruncation.IsBestUpper g.T.ScalarTruncation.HasNoBestUpper g.T.ScalarTruncation.raw_at c.args.n c.args.bound (Some d) in
    subst Q (sym c.bound_of.ensures) (cut_step g.T.ScalarTruncation.raw_at g.T.ScalarTruncation.type_at g.T.ScalarTruncation.bytes g.met.T.ScalarTruncation.type_law c.in-Ok.value c.args.n c.nullability-nullability.result c.args.bound c.in-Ok.ensures.value c.requires.some c.requires.typed kept g.T.ScalarTruncation.IsBestLower g.T.ScalarTruncation.IsBestUpper g.T.ScalarTruncation.HasNoBestUpper c.args.side x answer)

pub returns-in-Err-clause-refused : goal.returns-in-Err-clause-refused
returns-in-Err-clause-refused g c =
    let kept : c.nullability-nullability.result ≡ nullability_of (scalar_type c.args.bound.value) = c.nullability-nullability.ensures ∙ ap (λ d. nullability_of (type_of d)) c.dtype.ensures in
    let P : Result (Option (Scalar × Bool)) VortexError → Type 0 = λ r. IsBestAnswer c.args.side g.T.ScalarTruncation.IsBestLower g.T.ScalarTruncation.IsBestUpper g.T.ScalarTruncation.HasNoBestUpper g.T.ScalarTruncation.raw_at g.T.ScalarTruncation.type_at g.T.ScalarTruncation.bytes c.in-Ok.value c.args.n c.nullability-nullability.result r in
    let p = cut_refused g.T.ScalarTruncation.raw_at g.T.ScalarTruncation.type_at g.T.ScalarTruncation.bytes g.met.T.ScalarTruncation.type_law c.in-Ok.value c.args.n c.nullability-nullability.result c.args.bound c.in-Ok.ensures.value c.requires.some c.requires.typed kept g.T.ScalarTruncation.IsBestLower g.T.ScalarTruncation.IsBestUpper g.T.ScalarTruncation.HasNoBestUpper c.args.side c.in-Err.cause (subst P c.in-Err.is c.best_bound.ensures) in
    (refl, p.0, p.1)
