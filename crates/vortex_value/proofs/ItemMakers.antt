-- Makers over iterators: from the calls of `next` to the items that were given, and from a raw value to its scalar.
use Rattle.std.proofs.Common.{◌≡◌, ◌⊎◌, true, false, List, [], ◌∷◌, ◌++◌, Option, Some, None, Result, Ok, Err, MatchOption, MatchResult, IfOk, IfErr, inl, inr, refl, sym, ap, ◌∙◌, subst}
use Rattle.std.proofs.iter.runs.Made.{run, to_end, to_item}
use Rattle.std.specs.Iterator.{Yields}
use Rattle.std.specs.Iterator.Runs.{EachRunFrom, SomeRun, WholeRun}
use Rattle.std.specs.List.{All}
use Rattle.vortex_dtype.specs.Refusals.{RefusesOrNoMemory}
use Rattle.vortex_dtype.specs.TypeOf.{type_of}
use Rattle.vortex_dtype.specs.declared.error.VortexError.{VortexError}
use Rattle.vortex_dtype.specs.declared.error.VortexError.TheVariants.{OutOfMemory}
use Rattle.vortex_dtype.specs.declared.types.DType.{DType}
use Rattle.vortex_value.specs.Items.{IsRefusedAtLast, MadeOfItems}
use Rattle.vortex_value.specs.Values.RawOf.{raw_of}
use Rattle.vortex_value.specs.Values.RawTree.{RawTrees, raw_tuple}
use Rattle.vortex_value.specs.Values.Scalars.{IsMadeOf, IsValid}
use Rattle.vortex_value.specs.Validity.{Valid}
use Rattle.vortex_value.specs.declared.scalars.Scalar.{Scalar}
use Rattle.vortex_value.specs.declared.values.ScalarValue.{ScalarValue}
use Rattle.vortex_value.proofs.MakerLaws.{scalar_valid}

-- the calls that gave an item after others were refused at it
module _ {S A : Type 0} (steps : S → Option A → S → Type 0) (s i t u : S) (begun : i ≡ s) (xs : List A) (taken : Yields steps i xs t) (o : Option A) (step : steps t o u) where
  pub refused_at : (x : A) → o ≡ Some x → (cause : List A → Option VortexError) (e : VortexError) → cause xs ≡ None
      → MatchOption (cause (xs ++ x ∷ [])) (e ≡ OutOfMemory) (λ f. e ≡ f) → SomeRun steps s (λ p. IsRefusedAtLast cause e p.items)
  refused_at x is cause e earlier answer = (
    run steps i (xs ++ x ∷ []) false (to_item steps i u xs x (t, taken, subst (λ r. steps t r u) is step)),
    begun,
    record { before = xs; last = x; all = refl; earlier = earlier; answer = answer },
  )

  -- the calls up to `None` gave all items
  pub given_all : o ≡ None → (P : List A → Type 0) → P xs → WholeRun steps s (λ p. P p.items)
  given_all is P p = (run steps i xs true (to_end steps i xs (u, (t, taken, subst (λ r. steps t r u) is step))), begun, refl, p)

-- what is refused of an item on its own is refused of the items up to it
pub refused_with : {A V : Type 0} (cause : List A → Option VortexError) (items : List A) (o : Option VortexError) (r : Result V VortexError) (e : VortexError)
    → cause items ≡ o → r ≡ Err e → RefusesOrNoMemory o r → MatchOption (cause items) (e ≡ OutOfMemory) (λ f. e ≡ f)
refused_with {V = V} cause items None r e h is refused =
    let same : RefusesOrNoMemory {T = V} None (Err e) = subst (λ q. RefusesOrNoMemory None q) is refused in
    subst (λ o. MatchOption o (e ≡ OutOfMemory) (λ f. e ≡ f)) (sym h) same
refused_with {V = V} cause items (Some f) r e h is refused =
    let same : RefusesOrNoMemory {T = V} (Some f) (Err e) = subst (λ q. RefusesOrNoMemory (Some f) q) is refused in
    subst (λ o. MatchOption o (e ≡ OutOfMemory) (λ f. e ≡ f)) (sym h) same

-- what is answered has no cause to be refused
pub accepted : {V : Type 0} (o : Option VortexError) (r : Result V VortexError) (v : V) → r ≡ Ok v → RefusesOrNoMemory o r → o ≡ None
accepted None r v is refused = refl
accepted {V = V} (Some e) r v is refused =
    let none : ⊥ = subst (λ q. RefusesOrNoMemory {T = V} (Some e) q) is refused in
    absurd none

-- a list that was kept of all the items: what is answered of it is answered of the items
module _ {S A : Type 0} (steps : S → Option A → S → Type 0) (s : S) (kept : List A) (all : WholeRun steps s (λ p. kept ≡ p.items)) (cause : List A → Option VortexError) where
  because : (T : Type 0) (o : Option VortexError) (e : VortexError) → cause kept ≡ o → RefusesOrNoMemory {T = T} o (Err e)
      → (e ≡ OutOfMemory) ⊎ WholeRun steps s (λ p. cause p.items ≡ Some e)
  because T None e h refused = inl refused
  because T (Some f) e h refused = inr (all.0, all.1, all.2, subst (λ items. cause items ≡ Some e) all.3 (h ∙ ap Some (sym refused)))

  pub kept_refused : {V : Type 0} (r : Result V VortexError) → RefusesOrNoMemory (cause kept) r → IfErr r (λ e. (e ≡ OutOfMemory) ⊎ WholeRun steps s (λ p. cause p.items ≡ Some e))
  kept_refused (Ok v) refused = tt
  kept_refused {V = V} (Err e) refused = because V (cause kept) e refl refused

  pub kept_made : {V : Type 0} (Q : List A → V → Type 0) (r : Result V VortexError) → RefusesOrNoMemory (cause kept) r → IfOk r (Q kept)
      → IfOk r (λ v. WholeRun steps s (λ p. (cause p.items ≡ None) × Q p.items v))
  kept_made Q (Ok v) refused made = (all.0, all.1, all.2, subst (λ items. (cause items ≡ None) × Q items v) all.3 (accepted (cause kept) (Ok v) v refl refused, made))
  kept_made Q (Err e) refused made = tt

-- where the kind is known, only its case is left
pub kind_known : {F : Type 0} (o : Option F) (f : F) (P : Type 0) (Q : F → Type 0) → o ≡ Some f → Q f → MatchOption o P Q
kind_known o f P Q h q = subst (λ k. MatchOption k P Q) (sym h) q

-- what the code answers of a raw value: the scalar that it makes of this type, or the same refusal
abbrev pub Made : DType → Result (Option ScalarValue) VortexError → Result Scalar VortexError → Type 0
Made dtype value result = MatchResult value (λ v. result ≡ Ok (record { dtype = dtype; value = v })) (λ e. result ≡ Err e)

module _ {U S A : Type 0} (gives : U → S → Type 0) (steps : S → Option A → S → Type 0) (iterable : U) (it : S) (given : gives iterable it)
    (dtype : DType) (cause : List A → Option VortexError) (raws : List A → RawTrees) where
  -- the raw value is made of all the items, which give no cause to refuse
  abbrev Tells : Option ScalarValue → Type 0
  Tells v = WholeRun steps it (λ p. (cause p.items ≡ None) × (raw_of v ≡ raw_tuple (raws p.items)))

  pub made_of_items : (value : Result (Option ScalarValue) VortexError) (result : Result Scalar VortexError) → Made dtype value result → IfOk value Tells
      → MadeOfItems gives steps iterable cause (λ items. IsMadeOf (type_of dtype) (raw_tuple (raws items))) result
  made_of_items (Ok v) result is told =
      subst (λ r. MadeOfItems gives steps iterable cause (λ items. IsMadeOf (type_of dtype) (raw_tuple (raws items))) r) (sym is)
      (it, given, (told.0, told.1, told.2, (told.3.0, record { typed = refl; value = told.3.1 })))
  made_of_items (Err e) result is told = subst (λ r. MadeOfItems gives steps iterable cause (λ items. IsMadeOf (type_of dtype) (raw_tuple (raws items))) r) (sym is) tt

  pub valid_of_items : (P : A → Type 0) (value : Result (Option ScalarValue) VortexError) (result : Result Scalar VortexError) → Made dtype value result → IfOk value Tells
      → EachRunFrom steps it (λ p. All P p.items) → ((xs : List A) → cause xs ≡ None → All P xs → Valid (type_of dtype) (raw_tuple (raws xs))) → IfOk result IsValid
  valid_of_items P (Ok v) result is told each valid =
      subst (λ r. IfOk r IsValid) (sym is)
      (scalar_valid dtype v (type_of dtype) (raw_tuple (raws told.0.items)) refl told.3.1 (valid told.0.items told.3.0 (each told.0 told.0.seen told.1)))
  valid_of_items P (Err e) result is told each valid = subst (λ r. IfOk r IsValid) (sym is) tt
