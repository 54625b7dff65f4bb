-- Casts keep the content, and a type has one value of each: so chains agree, and equality and order stay.
use Rattle.std.proofs.Common.{◌≡◌, ◌&&◌, Bool, true, ◌∷◌, Result, Ok, Err, IfErr, IfOk, IsOk, refl, sym, ap, ◌∙◌, subst}
use Rattle.vortex_dtype.specs.Lemmas.TypeLaws.{tree_eq-same}
use Rattle.vortex_dtype.specs.TypeEquality.{tree_eq}
use Rattle.vortex_dtype.specs.TypeOf.{type_of}
use Rattle.vortex_dtype.specs.TypeTree.{TypeTree, null_type, extension_type, IsFlat, Same, IsNullable, as_nullable, storage}
use Rattle.vortex_dtype.specs.declared.types.DType.{DType}
use Rattle.vortex_dtype.specs.declared.error.VortexError.{VortexError}
use Rattle.vortex_dtype.specs.declared.error.VortexError.TheVariants.{CannotCast, OutOfMemory}
use Rattle.vortex_value.specs.CastAnswers.{AnswersCast, GivesCast}
use Rattle.vortex_value.specs.Casts.{same_type, a_null, Allows, CanCast, IsCast, RefusesCast, Sorts}
use Rattle.vortex_value.specs.Laws.CastLaws.{CallsAreChains, CastsKeepScalars, ChainsAgree, ChainsKeepValues, IntoNullableAndBack, NullableCastsBack, ThereAndBack}
use Rattle.vortex_value.specs.Chains.{last_of, Steps}
use Rattle.vortex_value.specs.Values.Content.{Content, null, content}
use Rattle.vortex_value.specs.Equality.{equal}
use Rattle.vortex_value.specs.Equality as equality
use Rattle.vortex_value.specs.Lemmas.EqualityLaws.{same_type-Decides}
use Rattle.vortex_value.specs.Values.RawTree.{RawTree, absent}
use Rattle.vortex_value.specs.Values.Scalars.{IsMadeOf, scalar_content, scalar_order, scalar_raw, scalar_type}
use Rattle.vortex_value.specs.Validity.{Valid}
use Rattle.vortex_value.specs.declared.scalars.Scalar.{Scalar}
use Rattle.vortex_value.proofs.Uniqueness.{one_value}

pub chains_agree : ChainsAgree
chains_agree s v t u ts us w x p q ends = one_value (last_of t ts) (last_of u us) w x ends p.ends q.ends (p.same ∙ sym q.same)

pub there_and_back : ThereAndBack
there_and_back s t v w x p there back = one_value s s x v refl back.valid p (back.same ∙ there.same)

pub chains_keep_values : ChainsKeepValues
chains_keep_values s u v w t r ts rs x y same ends p q =
    let left = p.same in
    let right = q.same in
    record {
      equality = (λ h. rw (← left, ← right) h, λ h. rw (left, right) h);
      value = (λ e. one_value s u v w same p.starts q.starts (sym left ∙ ap content e ∙ right), λ e. one_value (last_of t ts) (last_of r rs) x y ends p.ends q.ends (left ∙ ap content e ∙ sym right));
      ordered = rw (left, right);
    }

-- scalars of one type are compared by what they hold
pub casts_keep_scalars : CastsKeepScalars (λ x y. equality.same_type (scalar_type x) (scalar_type y) && equal (scalar_content x) (scalar_content y)) scalar_order
casts_keep_scalars x y a b t same p q =
    let one : equality.same_type t t ≡ true = (same_type-Decides t t).1 refl in
    let alike : equality.same_type (scalar_type x) (scalar_type y) ≡ true = (same_type-Decides (scalar_type x) (scalar_type y)).1 same in
    (rw (p.typed, q.typed, p.same, q.same, one, alike) refl, rw (p.typed, q.typed, p.same, q.same, one, alike) refl)

-- a cast is possible, and what a call answers is the one value
possible : (s t : TypeTree) (v w : RawTree) → IsCast s t v w → CanCast s t (content v)
possible s t v w h = (h.allowed, record { value = w; valid = h.valid; same = h.same })

only_memory : (t : TypeTree) (p : Type 0) (e : VortexError) → p → RefusesCast t p e → (e ≡ OutOfMemory) × ¬ (IsFlat t)
only_memory t p CannotCast h r = absurd (r h)
only_memory t p OutOfMemory h r = (refl, r)
only_memory t p _ h r = absurd r

pub answered : (s t : TypeTree) (v w : RawTree) (r : Result Scalar VortexError) → IsCast s t v w → AnswersCast s t v r → GivesCast t w r
answered s t v w (Ok y) h a = record { typed = a.one.typed; value = sym (a.one.only w h.valid h.same) }
answered s t v w (Err e) h a = only_memory t (CanCast s t (content v)) e (possible s t v w h) a.refuses_only

pub calls_are_chains : CallsAreChains
calls_are_chains = record {
  cast = λ s t v y can one. record { allowed = can.0; valid = subst (λ u. Valid u (scalar_raw y)) one.typed one.valid; same = one.same };
  alone = λ s t v w p h. record { starts = p; ends = h.valid; same = h.same; steps = (h.allowed, record { value = w; valid = h.valid; same = h.same }, tt) };
  further = λ s t u us v w x p h rest. record {
    starts = p;
    ends = rest.ends;
    same = rest.same ∙ h.same;
    steps = (h.allowed, record { value = w; valid = h.valid; same = h.same }, subst (λ c. Steps t (u ∷ us) c) h.same rest.steps);
  };
  possible = λ s t ts v x run. (run.steps.0, run.steps.1);
  last = λ s t v w run. record { allowed = run.steps.0; valid = run.ends; same = run.same };
  rest = λ s t u us v w x run h. record {
    starts = h.valid;
    ends = run.ends;
    same = run.same ∙ sym h.same;
    steps = subst (λ c. Steps t (u ∷ us) c) (sym h.same) run.steps.2;
  };
  answered = answered;
}

pub allows_null : (s t : TypeTree) → ¬ (Sorts s t) → Allows s t null
allows_null s null_type h = a_null tt h
allows_null s _ h = a_null tt h

-- a row that any two types that are the same have
pub allows_same : (s t : TypeTree) (c : Content) → Same s t → Allows s t c
allows_same s null_type c h = same_type h
allows_same s _ c h = same_type h

pub nullable_same : (t : TypeTree) → Same t (as_nullable t)
nullable_same (extension_type id metadata t) = ap (extension_type id metadata) (nullable_same t)
nullable_same _ = refl

nullable_takes : (t : TypeTree) → IsNullable (storage (as_nullable t))
nullable_takes (extension_type id metadata t) = nullable_takes t
nullable_takes _ = refl

pub nullable_valid : (s : TypeTree) (v : RawTree) → Valid s v → Valid (as_nullable s) v
nullable_valid s absent p = nullable_takes s
nullable_valid (extension_type id metadata s) v p = nullable_valid s v p
nullable_valid _ _ p = p

-- a value that is valid for two types that are the same is its own cast
kept : (s t : TypeTree) (v : RawTree) → Same s t → Valid t v → IsCast s t v v
kept s t v same p = record { allowed = allows_same s t (content v) same; valid = p; same = refl }

-- types that the test finds equal are the same tree
pub equal_types : (a b : DType) (s : TypeTree) {test : Bool} → type_of a ≡ s → test ≡ tree_eq (type_of a) (type_of b) → test ≡ true → s ≡ type_of b
equal_types a b s typed told found = sym typed ∙ tree_eq-same (type_of a) (type_of b) (sym told ∙ found)

not_ok : (e : VortexError) → ¬ (IsOk {T = Scalar} (Err e))
not_ok e h = cc

-- a copy of a valid scalar answers the cast to its own type
pub copy_answers : (s t : TypeTree) (v : RawTree) (r : Result Scalar VortexError) → s ≡ t → Valid s v → IfOk r (IsMadeOf s v) → IfErr r (λ e. e ≡ OutOfMemory) → (IsFlat s → Valid s v → IsOk r)
    → AnswersCast s t v r
copy_answers s t v r e p made refused flat = subst (λ u. AnswersCast s u v r) e (answers r made refused flat)
  where
    answers : (r : Result Scalar VortexError) → IfOk r (IsMadeOf s v) → IfErr r (λ e. e ≡ OutOfMemory) → (IsFlat s → Valid s v → IsOk r) → AnswersCast s s v r
    answers (Ok x) made refused flat =
        let there : Valid s (scalar_raw x) = rw made.value p in
        let same : content (scalar_raw x) ≡ content v = ap content made.value in
        record {
          succeeds_only = possible s s v v (kept s s v refl p);
          one = record { typed = made.typed; valid = rw made.typed there; same = same; only = λ w q d. one_value s s w (scalar_raw x) refl q there (d ∙ sym same) };
          refuses_only = tt;
          leaf_refused = tt;
        }
    answers (Err f) made refused flat = record {
      succeeds_only = tt;
      one = tt;
      refuses_only = rw refused (λ h. not_ok f (flat h p));
      leaf_refused = λ whole memory. possible s s v v (kept s s v refl p);
    }

pub into_nullable_and_back : IntoNullableAndBack
into_nullable_and_back s v p = (kept s (as_nullable s) v (nullable_same s) (nullable_valid s v p), kept (as_nullable s) s v (sym (nullable_same s)) p)

pub nullable_casts_back : NullableCastsBack
nullable_casts_back x y r valid made a =
    let s = scalar_type x in
    let typed = made.typed in
    let value = made.value in
    answered (as_nullable s) s (scalar_raw x) (scalar_raw x) r (into_nullable_and_back s (scalar_raw x) valid).1 (rw (typed, value) at a)
