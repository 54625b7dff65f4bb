-- What the steps make is the one value that the table says.
use Rattle.std.proofs.Common.{◌≡◌, Err, sym, ◌∙◌, refl, rules}
use Rattle.vortex_dtype.specs.TypeOf.{type_of}
use Rattle.vortex_value.specs.CastAnswers.{OutOfMemoryOnlyIfPossible}
use Rattle.vortex_value.specs.Casts.{CanCast, RefusesCast}
use Rattle.vortex_value.specs.Steps.CastSteps.{error_of}
use Rattle.vortex_value.specs.Values.RawOf.{raw_of}
use Rattle.vortex_value.specs.Values.Refs.{ref_content, ref_type}
use Rattle.vortex_value.specs.Values.Scalars.{IsTheOne}
use Rattle.vortex_value.proofs.CastLaws.{copy_answers, equal_types}
use Rattle.vortex_value.proofs.CastTable.{cast_made, cast_of_some, cast_refused, no_memory, refused_with}
use Rattle.vortex_value.proofs.MakerLaws.{typed_with, untyped_with}
use Rattle.vortex_value.proofs.Uniqueness.{one_value}
use Rattle.vortex_value.proofs.refs.ScalarRef.cast_any.Goals as goal

pub returns : goal.returns
returns c =
    let t = type_of c.args.target.now in
    let x = c.args.self.now in
    let can = CanCast (ref_type x) t (ref_content x) in
    let made = cast_made _ (raw_of c.in_ok-value.value) _ _ c.requires (rw (c.value.ensures, c.dtype-source.ensures) at c.in_ok-value.ensures.made) in
    record {
      succeeds_only = typed_with _ c.clone.result c.in_ok-value.value c.with_type.result t (λ _. can) c.with_type.ensures c.clone.ensures
          (λ d typed. (made.allowed, record { value = raw_of c.in_ok-value.value; valid = made.valid; same = made.same }));
      one = typed_with _ c.clone.result c.in_ok-value.value c.with_type.result t (IsTheOne t (ref_content x)) c.with_type.ensures c.clone.ensures
          (λ d typed. record {
            typed = typed;
            valid = rw typed made.valid;
            same = made.same;
            only = λ v p e. one_value t t v _ refl p made.valid (e ∙ sym made.same);
          });
      refuses_only = untyped_with _ _ c.clone.result c.in_ok-value.value c.with_type.result (RefusesCast t can) c.with_type.ensures c.clone.ensures
          (λ e none. rw none.0 none.1);
      leaf_refused = untyped_with _ _ c.clone.result c.in_ok-value.value c.with_type.result (OutOfMemoryOnlyIfPossible (ref_type x) (ref_content x) can) c.with_type.ensures c.clone.ensures
          (λ e none whole memory. (made.allowed, record { value = raw_of c.in_ok-value.value; valid = made.valid; same = made.same }));
    }

pub returns-in_err-value : goal.returns-in_err-value
returns-in_err-value c =
    let is : c.from_residual.result ≡ Err (error_of c.in_err-value.field-0.0) = search rules in
    let whole = rw (c.value.ensures, c.dtype-source.ensures) at c.in_err-value.ensures.whole in
    record {
      succeeds_only = rw is tt;
      one = rw is tt;
      refuses_only = refused_with _ _ _ is (cast_refused _ _ _ _ c.requires (rw (c.value.ensures, c.dtype-source.ensures) at c.in_err-value.ensures.made) c.in_err-value.ensures.flat);
      leaf_refused = refused_with _ _ _ is (λ taken memory. cast_of_some _ _ _ c.requires (whole taken (no_memory _ memory)));
    }

-- between equal types
pub returns-then-eq : goal.returns-then-eq
returns-then-eq c =
    let same = equal_types c.dtype-source.result.now c.args.target.now (ref_type c.args.self.now) c.dtype-source.ensures c.eq.ensures c.if-eq.true in
    copy_answers _ _ _ c.to_scalar.result same c.requires c.to_scalar.ensures.copied c.to_scalar.ensures.refused c.to_scalar.ensures.flat
