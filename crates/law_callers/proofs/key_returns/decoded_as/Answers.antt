-- The bytes begin with the key of the target's value, as it has the same content.
use Rattle.std.proofs.Common.{◌≡◌, ◌⊎◌, ◌++◌, ℕ, List, [], true≢false, inl, inr, sym, subst, ap, ◌∙◌, append-nil}
use Rattle.std.specs.Prelude.{Result, Ok, Err, IsErr, MatchResult}
use Rattle.std.specs.Result.{IsErrAnd}
use Rattle.vortex_dtype.specs.TypeOf.{type_of}
use Rattle.vortex_dtype.specs.TypeTree.{TypeTree}
use Rattle.vortex_value.specs.TypesWithin.{HasNoVariant}
use Rattle.vortex_value.specs.Validity.{Valid}
use Rattle.vortex_value.specs.Values.Content.{Content, content}
use Rattle.vortex_value.specs.Values.RawTree.{RawTree}
use Rattle.vortex_value.specs.Values.Refs.{ref_content}
use Rattle.vortex_value.specs.Values.Scalars.{IsMadeOf}
use Rattle.vortex_value.specs.declared.scalars.Scalar.{Scalar}
use Rattle.vortex_row.specs.Columns.{key_with}
use Rattle.vortex_row.specs.Decoded.{BeginsWithKey}
use Rattle.vortex_row.specs.Held.{IsHeld}
use Rattle.vortex_row.specs.declared.error.RowError.{RowError}
use Rattle.vortex_row.specs.declared.error.RowError.TheVariants.{BadKey, HasVariant, OutOfMemory}
use Rattle.vortex_row.specs.declared.options.SortOptions.{SortOptions}
use Rattle.law_callers.proofs.key_returns.decoded_as.Goals as goal

begins : (o : SortOptions) (t : TypeTree) (c : Content) (w : RawTree) (before now bytes : List ℕ) → Valid t w → content w ≡ c → IsHeld c → before ≡ [] → now ≡ before ++ key_with o c → bytes ≡ now → BeginsWithKey o t bytes w []
begins o t c w before now bytes valid same held e f g = record {
  value = record { valid = valid; held = subst IsHeld (sym same) held };
  is = g ∙ f ∙ ap (λ xs. xs ++ key_with o c) e ∙ ap (key_with o) (sym same) ∙ sym (append-nil (key_with o (content w)));
}

same_error : {A : Type 0} (r : Result A RowError) (e f : RowError) → r ≡ Err e → r ≡ Err f → e ≡ f
same_error r e f h k = cc

-- no place is bad where a key begins
cause : (e : RowError) (N : Type 0) → (e ≡ HasVariant) ⊎ ((e ≡ OutOfMemory) ⊎ ((place : ℕ) × (e ≡ BadKey place))) → (N → e ≡ OutOfMemory) → (¬ N → e ≡ HasVariant) → (e ≡ HasVariant) ⊎ (e ≡ OutOfMemory)
cause e N (inl h) whole variant = inl h
cause e N (inr (inl h)) whole variant = inr h
cause e N (inr (inr (place, is))) whole variant = inl (variant (λ n. in_place (whole n)))
  where
    in_place : e ≡ OutOfMemory → ⊥
    in_place h = cc

passed : {A E : Type 0} (P : A → Type 0) (Q : E → Type 0) (r : Result A E) (e : E) → IsErr r × IsErrAnd r (λ f. f ≡ e) → Q e → MatchResult r P Q
passed P Q (Ok x) e h q = absurd (true≢false (sym h.0))
passed P Q (Err f) e h q = subst Q (sym h.1) q

pub returns-in_err-scalar : goal.returns-in_err-scalar
returns-in_err-scalar c = λ w valid same.
    let key = begins c.args.options (type_of c.args.target.now) (ref_content c.args.x) w _ _ _ valid same c.in_ok-append_key.ensures.held c.new-key.ensures.items c.in_ok-append_key.ensures.appended c.as_slice.ensures.value in
    let refused = cause c.in_err-scalar.field-0.0 (HasNoVariant (type_of c.args.target.now)) c.in_err-scalar.ensures.refused (λ n. c.in_err-scalar.ensures.whole w [] n key)
    (λ n. same_error c.decode_key.result c.in_err-scalar.field-0.0 HasVariant c.in_err-scalar.was (c.decode_key.ensures.variant.1 n)) in
    passed _ _ _ _ c.from_residual-in_err-scalar.ensures refused

pub returns : goal.returns
returns c = λ w valid same.
    let key = begins c.args.options (type_of c.args.target.now) (ref_content c.args.x) w _ _ _ valid same c.in_ok-append_key.ensures.held c.new-key.ensures.items c.in_ok-append_key.ensures.appended c.as_slice.ensures.value in
    (c.in_ok-scalar.ensures.whole w [] c.in_ok-scalar.ensures.ordered key).0
