-- A number that is cast to a type of integers, or refused, is what the table of casts says.
use Rattle.std.proofs.Common.{◌≡◌, inr, false, Option, Some, None, Result, Ok, Err, refl, sym, ap, ◌∙◌, subst, rules}
use Rattle.std.specs.Result.{MatchResult}
use Rattle.vortex_dtype.specs.TypeOf.{type_of}
use Rattle.vortex_dtype.specs.TypeTree.{TypeTree, integer_type}
use Rattle.vortex_dtype.specs.declared.error.VortexError.{VortexError}
use Rattle.vortex_dtype.specs.declared.error.VortexError.TheVariants.{CannotCast}
use Rattle.vortex_dtype.specs.declared.nullability.Nullability.{Nullability}
use Rattle.vortex_dtype.specs.declared.ptype.PType.{PType}
use Rattle.vortex_pvalue.specs.Whole.{ptype_of, whole_of}
use Rattle.vortex_value.specs.CastAnswers.{AnswersCast}
use Rattle.vortex_value.specs.Steps.CastSteps.{cast_to, number_to}
use Rattle.vortex_value.specs.Values.RawOf.{value_tree}
use Rattle.vortex_value.specs.Values.RawKinds.{IsIntegerValue}
use Rattle.vortex_value.specs.Values.RawTree.{RawTree, absent, is_absent, raw_integer}
use Rattle.vortex_value.specs.Values.Refs.{ref_raw, ref_type}
use Rattle.vortex_value.specs.Values.Scalars.{scalar_raw, scalar_type}
use Rattle.vortex_value.specs.Validity.{Valid}
use Rattle.vortex_value.specs.declared.cast.refusals.Refusal.TheVariants.{Impossible}
use Rattle.vortex_value.specs.declared.scalars.Scalar.{Scalar}
use Rattle.vortex_value.specs.declared.values.ScalarValue.{ScalarValue, the_lemmas}
use Rattle.vortex_value.proofs.CastTable.{cast_made, cast_refused}
use Rattle.vortex_value.proofs.Leaves.{type_of-Primitive}
use Rattle.vortex_value.proofs.Uniqueness.{one_value}
use Rattle.vortex_value.proofs.refs.ScalarRef.cast.Goals as goal

-- what a cast makes is the scalar, or there is none
answers : (s t : TypeTree) (v : RawTree) (made : Option RawTree) (r : Result Scalar VortexError) → Valid s v → cast_to v s t ≡ made
    → MatchResult r (λ x. (scalar_type x ≡ t) × (made ≡ Some (scalar_raw x))) (λ e. (e ≡ CannotCast) × (made ≡ None)) → AnswersCast s t v r
answers s t v made (Ok x) valid is h =
    let here = cast_made v (scalar_raw x) s t valid (is ∙ h.1) in
    record {
      succeeds_only = (here.allowed, record { value = scalar_raw x; valid = here.valid; same = here.same });
      one = record { typed = h.0; valid = rw h.0 here.valid; same = here.same; only = λ w p e. one_value t t w (scalar_raw x) refl p here.valid (e ∙ sym here.same) };
      refuses_only = tt;
      leaf_refused = tt;
    }
answers s t v made (Err e) valid is h = record {
  succeeds_only = tt;
  one = tt;
  refuses_only = rw h.0 (cast_refused v s t Impossible valid (inr (refl, is ∙ h.1)) (λ flat. λ memory. cc));
  leaf_refused = λ whole memory. cc;
}

-- a value that is there and valid for a type of integers is a number
integer_value : (k : PType) (n : Nullability) (v : RawTree) → is_absent v ≡ false → Valid (integer_type k n) v → IsIntegerValue v
integer_value k n absent there valid = cc
integer_value k n (raw_integer l z) there valid = tt
integer_value k n _ there valid = absurd valid

not_absent : (v : ScalarValue) → is_absent (value_tree v) ≡ false
not_absent v = search (rules, the_lemmas)

pub as_primitive-requires : goal.as_primitive-requires
as_primitive-requires c =
    let arm = c.in-Primitive-Some-Primitive in
    let x = c.args.self.now in
    let v = arm.value.now in
    let k = arm.field-0-0 in
    let n = arm.field-1-0 in
    let source : ref_type x ≡ integer_type k n = sym c.dtype.ensures ∙ ap type_of arm.is-0 ∙ type_of-Primitive k n in
    let lent : value_tree v ≡ ref_raw x = arm.ensures in
    let valid : Valid (integer_type k n) (ref_raw x) = subst (λ t. Valid t (ref_raw x)) source c.requires in
    integer_value k n (value_tree v) (not_absent v) (subst (λ w. Valid (integer_type k n) w) (sym lent) valid)

pub returns-in-Primitive-Some-Primitive : goal.returns-in-Primitive-Some-Primitive
returns-in-Primitive-Some-Primitive c =
    let arm = c.in-Primitive-Some-Primitive in
    let x = c.args.self.now in
    let n = c.as_primitive.result.now in
    let t = integer_type arm.ptype arm.nullability in
    let source : ref_type x ≡ integer_type arm.field-0-0 arm.field-1-0 = sym c.dtype.ensures ∙ ap type_of arm.is-0 ∙ type_of-Primitive arm.field-0-0 arm.field-1-0 in
    let target : type_of c.args.target.now ≡ t = ap type_of arm.is-2 ∙ type_of-Primitive arm.ptype arm.nullability in
    let lent : value_tree arm.value.now ≡ ref_raw x = arm.ensures in
    let value : ref_raw x ≡ raw_integer (ptype_of n) (whole_of n) = sym lent ∙ c.as_primitive.ensures in
    let made : cast_to (ref_raw x) (ref_type x) t ≡ number_to (whole_of n) t = rw (source, value) refl in
    rw target (answers (ref_type x) t (ref_raw x) (number_to (whole_of n) t) c.cast_integer.result c.requires made c.cast_integer.ensures)
