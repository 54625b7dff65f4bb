-- What the code answers for a bound that is a string, or bytes.
use Rattle.std.proofs.Common.{◌≡◌, ℕ, ◌<◌, ◌≤◌, Bool, true, false, not, ◌&&◌, nat_lt, List, Option, Some, None, Result, Ok, Err, IsOk, MatchOption, refl, sym, ap, subst, ◌∙◌}
use Rattle.std.proofs.lemmas.Bool.{false≢true, ltb-false, ltb-true}
use Rattle.vortex_bounds.specs.Truncation.{IsLowerAnswer, IsLowerOf, IsTypeOfKind, IsUpperAnswer, IsUpperOf}
use Rattle.vortex_dtype.specs.TypeTree.{TypeTree, nullability_of}
use Rattle.vortex_dtype.specs.declared.error.VortexError.{VortexError}
use Rattle.vortex_dtype.specs.declared.nullability.Nullability.{Nullability}
use Rattle.vortex_dtype.specs.declared.buffer.TheConstants.{INLINE_BYTES}
use Rattle.vortex_value.specs.Values.RawTree.{RawTree, absent, is_absent}
use Rattle.vortex_value.specs.Values.Scalars.{scalar_raw, scalar_type}
use Rattle.vortex_value.specs.declared.scalars.Scalar.{Scalar}
use Rattle.vortex_statistics.specs.Kinds.{IsBestAnswer, IsCutAt}
use Rattle.vortex_statistics.specs.Truncating.{IsCutLower, IsCutUpper, IsLongRaw}
use Rattle.vortex_statistics.specs.declared.column_statistics.Bound.{Bound}
use Rattle.vortex_statistics.specs.declared.truncating.Side.{Side}
use Rattle.vortex_statistics.specs.declared.truncating.Side.TheVariants.{Lower, Upper}

-- a length past 22, where up to 22 the call does not fail
past_inline : (n : ℕ) → (n ≤ INLINE_BYTES → ⊥) → INLINE_BYTES < n
past_inline n f = by_test (nat_lt INLINE_BYTES n) refl
  where
    by_test : (p : Bool) → nat_lt INLINE_BYTES n ≡ p → INLINE_BYTES < n
    by_test true e = ltb-true INLINE_BYTES n e
    by_test false e = absurd (f (ltb-false INLINE_BYTES n e))

never_ok : (e : VortexError) → let r : Result (Option (Scalar × Bool)) VortexError = Err e in IsOk r → ⊥
never_ok e h = false≢true h

module _ {V : Type 0} (raw : List ℕ → RawTree) (type_at : Nullability → TypeTree) (bytes : V → List ℕ) (law : (k : Nullability) → nullability_of (type_at k) ≡ k)
    (o : Option V) (n : ℕ) (nullable : Nullability) (b : Bound)
    (held : MatchOption o (scalar_raw b.value ≡ absent) (λ v. scalar_raw b.value ≡ raw (bytes v))) (there : is_absent (scalar_raw b.value) ≡ false)
    (typed : IsTypeOfKind type_at (scalar_type b.value)) (kept : nullable ≡ nullability_of (scalar_type b.value)) where
  -- the type at the bound's nullability is that of the bound
  type_back : type_at nullable ≡ scalar_type b.value
  type_back = ap type_at (kept ∙ ap nullability_of typed.1 ∙ law typed.0) ∙ sym typed.1

  not_absent : scalar_raw b.value ≡ absent → ⊥
  not_absent e = false≢true (sym there ∙ ap is_absent e)

  module _ (Best : List ℕ → ℕ → List ℕ → Type 0) where
    lower_step : (x : Scalar × Bool) → IsLowerAnswer Best raw type_at bytes o n nullable (Ok (Some x)) → IsCutLower Best raw n b (Some (record { value = x.0; is_exact = b.is_exact && not x.1 }))
    lower_step x h = by_value o held h
      where
        by_value : (p : Option V) → MatchOption p (scalar_raw b.value ≡ absent) (λ v. scalar_raw b.value ≡ raw (bytes v)) → IsLowerAnswer Best raw type_at bytes p n nullable (Ok (Some x))
            → IsCutLower Best raw n b (Some (record { value = x.0; is_exact = b.is_exact && not x.1 }))
        by_value None m i = absurd (not_absent m)
        by_value (Some v) m i =
            let P : TypeTree → Type 0 = λ t. IsLowerOf Best raw t (bytes v) n x.0 x.1 in
            (bytes v, m, record { cut = x.1; bound = subst P type_back i.bound; exact = refl })

    lower_there : IsLowerAnswer Best raw type_at bytes o n nullable (Ok None) → ⊥
    lower_there h = by_value o held h
      where
        by_value : (p : Option V) → MatchOption p (scalar_raw b.value ≡ absent) (λ v. scalar_raw b.value ≡ raw (bytes v)) → IsLowerAnswer Best raw type_at bytes p n nullable (Ok None) → ⊥
        by_value None m i = not_absent m
        by_value (Some v) m i = i.bound

    lower_refused : (e : VortexError) → IsLowerAnswer Best raw type_at bytes o n nullable (Err e) → (INLINE_BYTES < n) × IsLongRaw raw n b
    lower_refused e h = by_value o held h
      where
        by_value : (p : Option V) → MatchOption p (scalar_raw b.value ≡ absent) (λ v. scalar_raw b.value ≡ raw (bytes v)) → IsLowerAnswer Best raw type_at bytes p n nullable (Err e) → (INLINE_BYTES < n) × IsLongRaw raw n b
        by_value None m i = absurd (not_absent m)
        by_value (Some v) m i = (past_inline n (λ k. never_ok e (i.inline k)), (bytes v, m, i.refused.1))

    module _ (HasNone : List ℕ → ℕ → Type 0) where
      upper_step : (x : Scalar × Bool) → IsUpperAnswer Best HasNone raw type_at bytes o n nullable (Ok (Some x)) → IsCutUpper Best HasNone raw n b (Some (record { value = x.0; is_exact = b.is_exact && not x.1 }))
      upper_step x h = by_value o held h
        where
          by_value : (p : Option V) → MatchOption p (scalar_raw b.value ≡ absent) (λ v. scalar_raw b.value ≡ raw (bytes v)) → IsUpperAnswer Best HasNone raw type_at bytes p n nullable (Ok (Some x))
              → IsCutUpper Best HasNone raw n b (Some (record { value = x.0; is_exact = b.is_exact && not x.1 }))
          by_value None m i = absurd (not_absent m)
          by_value (Some v) m i =
              let P : TypeTree → Type 0 = λ t. IsUpperOf Best raw t (bytes v) n x.0 x.1 in
              (bytes v, m, record { cut = x.1; bound = subst P type_back i.bound; exact = refl })

      upper_none : IsUpperAnswer Best HasNone raw type_at bytes o n nullable (Ok None) → IsCutUpper Best HasNone raw n b None
      upper_none h = by_value o held h
        where
          by_value : (p : Option V) → MatchOption p (scalar_raw b.value ≡ absent) (λ v. scalar_raw b.value ≡ raw (bytes v)) → IsUpperAnswer Best HasNone raw type_at bytes p n nullable (Ok None) → IsCutUpper Best HasNone raw n b None
          by_value None m i = absurd (not_absent m)
          by_value (Some v) m i = (bytes v, m, i.bound)

      upper_refused : (e : VortexError) → IsUpperAnswer Best HasNone raw type_at bytes o n nullable (Err e) → (INLINE_BYTES < n) × IsLongRaw raw n b
      upper_refused e h = by_value o held h
        where
          by_value : (p : Option V) → MatchOption p (scalar_raw b.value ≡ absent) (λ v. scalar_raw b.value ≡ raw (bytes v)) → IsUpperAnswer Best HasNone raw type_at bytes p n nullable (Err e) → (INLINE_BYTES < n) × IsLongRaw raw n b
          by_value None m i = absurd (not_absent m)
          by_value (Some v) m i = (past_inline n (λ k. never_ok e (i.inline k)), (bytes v, m, i.refused.1))

  -- ---- on either side

  module _ (Below Above : List ℕ → ℕ → List ℕ → Type 0) (HasNone : List ℕ → ℕ → Type 0) where
    pub cut_step : (side : Side) (x : Scalar × Bool) → IsBestAnswer side Below Above HasNone raw type_at bytes o n nullable (Ok (Some x)) → IsCutAt side Below Above HasNone raw n b (Some (record { value = x.0; is_exact = b.is_exact && not x.1 }))
    cut_step Lower x h = lower_step Below x h
    cut_step Upper x h = upper_step Above HasNone x h

    pub cut_none : (side : Side) → IsBestAnswer side Below Above HasNone raw type_at bytes o n nullable (Ok None) → IsCutAt side Below Above HasNone raw n b None
    cut_none Lower h = absurd (lower_there Below h)
    cut_none Upper h = upper_none Above HasNone h

    pub cut_refused : (side : Side) (e : VortexError) → IsBestAnswer side Below Above HasNone raw type_at bytes o n nullable (Err e) → (INLINE_BYTES < n) × IsLongRaw raw n b
    cut_refused Lower e h = lower_refused Below e h
    cut_refused Upper e h = upper_refused Above HasNone e h
