-- From the bounds of bytes to those of scalars.
use Rattle.std.proofs.Common.{◌≡◌, ℕ, ◌<◌, ◌≤◌, inl, inr, List, [], ◌∷◌, length, take, slice_range, true, false, true≢false, Option, Some, None, IfNone, IfSome, MatchOption, MatchResult, Result, Ok, Err, if◌then◌else◌, refl, sym, ap, ap₂, subst, ◌∙◌, arith, Ordering, Less, Equal, Greater, ◌≢◌}
use Rattle.std.specs.Cmp.Lexicographic.{slice_cmp}
use Rattle.std.specs.Ordering.{nat_cmp}
use Rattle.vortex_dtype.specs.Memory.{GivesOrNoMemory}
use Rattle.vortex_dtype.specs.declared.error.VortexError.{VortexError}
use Rattle.vortex_dtype.specs.declared.error.VortexError.TheVariants.{OutOfMemory}
use Rattle.vortex_dtype.specs.TypeTree.{TypeTree, Same, erase}
use Rattle.vortex_value.specs.Values.Content.{Content, content}
use Rattle.vortex_value.specs.Lemmas.EqualityLaws.{same_type-Decides}
use Rattle.vortex_value.specs.Order.{order, typed_order}
use Rattle.vortex_value.specs.Values.RawTree.{RawTree}
use Rattle.vortex_value.specs.Values.Scalars.{IsMadeOf, IsValid, scalar_content, scalar_order, scalar_raw, scalar_type}
use Rattle.vortex_value.specs.declared.scalars.Scalar.{Scalar}
use Rattle.vortex_bounds.specs.Strings.{Below, IsLower, IsString, IsUpper, HasNoUpper, NotAbove, next_string, upper_of}
use Rattle.vortex_bounds.specs.Truncation.{IsBoundOf, IsLowerOf, IsSource, IsUpTo, IsUpperOf}
use Rattle.vortex_bounds.proofs.ByteOrder.{Le, NotAbove-from}
use Rattle.vortex_bounds.proofs.NextString.{upper_of_is_upper}
use Rattle.vortex_bounds.proofs.StringBounds.{IsLower-lower_of}
use Rattle.vortex_bounds.proofs.TextBounds.{slice_from_start}

-- ---- order
up_to : (o : Ordering) → o ≢ Greater → IsUpTo (Some o)
up_to Less h = inl refl
up_to Equal h = inr refl
up_to Greater h = absurd (h refl)

Le-refl : (b : List ℕ) → Le b b
Le-refl [] = tt
Le-refl (x ∷ b) = inr (refl, Le-refl b)

not_above_itself : (b : List ℕ) → NotAbove b b
not_above_itself b = NotAbove-from b b (Le-refl b)

not_above_of_below : (r b : List ℕ) → Below b r → NotAbove b r
not_above_of_below r b h = λ q. cc

-- the raw values of bytes are ordered as these
abbrev OrdersBytes : (List ℕ → RawTree) → Type 0
OrdersBytes raw = (b c : List ℕ) → order (content (raw b)) (content (raw c)) ≡ Some (slice_cmp nat_cmp b c)

same_typed : (s t : TypeTree) (c d : Content) → Same s t → typed_order s c t d ≡ order c d
same_typed s t c d h = ap (λ b. if b then order c d else None) ((same_type-Decides s t).1 h)

orders_scalars : (raw : List ℕ → RawTree) → OrdersBytes raw → (x y : Scalar) (b c : List ℕ)
    → Same (scalar_type x) (scalar_type y) → scalar_raw x ≡ raw b → scalar_raw y ≡ raw c
    → scalar_order x y ≡ Some (slice_cmp nat_cmp b c)
orders_scalars raw law x y b c same e f =
    same_typed (scalar_type x) (scalar_type y) (scalar_content x) (scalar_content y) same
    ∙ ap₂ (λ v w. order (content v) (content w)) e f ∙ law b c

same_as_source : (t : TypeTree) (v w : RawTree) (x y : Scalar) → IsMadeOf t w y → IsSource t v x → Same (scalar_type y) (scalar_type x)
same_as_source t v w x y m s = ap erase m.typed ∙ sym s.typed

-- ---- the two functions
no_flag : (n m : ℕ) → m ≤ n → (false ≡ true → n < m) × (n < m → false ≡ true)
no_flag n m h = (λ e. absurd (true≢false (sym e)), λ l. absurd (omega arith))

whole : (Best : List ℕ → ℕ → List ℕ → Type 0) (raw : List ℕ → RawTree) (t : TypeTree) (b : List ℕ) (n : ℕ) (y : Scalar)
    → IsMadeOf t (raw b) y → IsValid y → length b ≤ n → IsBoundOf Best raw t b n y false
whole Best raw t b n y m v l = record {
  bytes = b;
  made = m;
  valid = v;
  flag = no_flag n (length b) l;
  whole = λ _. refl;
  best = λ k. absurd (omega arith);
}

cut : (Best : List ℕ → ℕ → List ℕ → Type 0) (raw : List ℕ → RawTree) (t : TypeTree) (b r : List ℕ) (n : ℕ) (y : Scalar)
    → IsMadeOf t (raw r) y → IsValid y → n < length b → Best b n r → IsBoundOf Best raw t b n y true
cut Best raw t b r n y m v l k = record {
  bytes = r;
  made = m;
  valid = v;
  flag = (λ _. l, λ _. refl);
  whole = λ m. absurd (omega arith);
  best = λ _. k;
}

pub lower_whole : (Best : List ℕ → ℕ → List ℕ → Type 0) (raw : List ℕ → RawTree) (t : TypeTree) (b : List ℕ) (n : ℕ) (y : Scalar)
    → OrdersBytes raw → IsMadeOf t (raw b) y → IsValid y → length b ≤ n → IsLowerOf Best raw t b n y false
lower_whole Best raw t b n y law m v l = record {
  bound = whole Best raw t b n y m v l;
  not_above = λ x s. subst IsUpTo
      (sym (orders_scalars raw law y x b b (same_as_source t _ _ x y m s) m.value s.value))
      (up_to _ (not_above_itself b));
}

pub lower_cut : (Best : List ℕ → ℕ → List ℕ → Type 0) (raw : List ℕ → RawTree) (t : TypeTree) (b r : List ℕ) (n : ℕ) (y : Scalar)
    → OrdersBytes raw → ((b : List ℕ) (n : ℕ) (r : List ℕ) → Best b n r → NotAbove r b)
    → IsMadeOf t (raw r) y → IsValid y → n < length b → Best b n r → IsLowerOf Best raw t b n y true
lower_cut Best raw t b r n y law lower_law m v l k = record {
  bound = cut Best raw t b r n y m v l k;
  not_above = λ x s. subst IsUpTo
      (sym (orders_scalars raw law y x r b (same_as_source t _ _ x y m s) m.value s.value))
      (up_to _ (lower_law b n r k));
}

pub upper_whole : (Best : List ℕ → ℕ → List ℕ → Type 0) (raw : List ℕ → RawTree) (t : TypeTree) (b : List ℕ) (n : ℕ) (y : Scalar)
    → OrdersBytes raw → IsMadeOf t (raw b) y → IsValid y → length b ≤ n → IsUpperOf Best raw t b n y false
upper_whole Best raw t b n y law m v l = record {
  bound = whole Best raw t b n y m v l;
  not_below = λ x s. subst IsUpTo
      (sym (orders_scalars raw law x y b b (sym (same_as_source t _ _ x y m s)) s.value m.value))
      (up_to _ (not_above_itself b));
}

pub upper_cut : (Best : List ℕ → ℕ → List ℕ → Type 0) (raw : List ℕ → RawTree) (t : TypeTree) (b r : List ℕ) (n : ℕ) (y : Scalar)
    → OrdersBytes raw → ((b : List ℕ) (n : ℕ) (r : List ℕ) → Best b n r → Below b r)
    → IsMadeOf t (raw r) y → IsValid y → n < length b → Best b n r → IsUpperOf Best raw t b n y true
upper_cut Best raw t b r n y law upper_law m v l k = record {
  bound = cut Best raw t b r n y m v l k;
  not_below = λ x s. subst IsUpTo
      (sym (orders_scalars raw law x y b r (sym (same_as_source t _ _ x y m s)) s.value m.value))
      (up_to _ (not_above_of_below r b (upper_law b n r k)));
}

pub of_value : {V : Type 0} (o : Option V) (v : V) (P : V → Type 0) → o ≡ Some v → P v → IfSome o P
of_value o v P e h = rw e h

pub not_none : {V : Type 0} (o : Option V) (v : V) (P : Type 0) → o ≡ Some v → IfNone o P
not_none o v P e = rw e tt

-- ---- the bounds of a buffer
pub lower_slice : (b : List ℕ) (n : ℕ) (r : List ℕ) → IsString b → r ≡ slice_range b 0 n → IsLower b n r
lower_slice b n r s e = subst (λ v. IsLower b n v) (sym (e ∙ slice_from_start b n)) (IsLower-lower_of b n s)

-- of the bytes s of the buffer b
upper_some : (b s r : List ℕ) (n : ℕ) → s ≡ b → IsString s → n ≤ length b → next_string (take n s) ≡ Some r → IsUpper b n r
upper_some b s r n e v l h =
    let u = upper_of_is_upper b n (subst IsString e v) l in
    let g : upper_of b n ≡ Some r = ap next_string (sym (ap (λ x. take n x) e)) ∙ h in
    rw g at u

upper_none : (b s : List ℕ) (n : ℕ) → s ≡ b → IsString s → n ≤ length b → next_string (take n s) ≡ None → HasNoUpper b n
upper_none b s n e v l h =
    let u = upper_of_is_upper b n (subst IsString e v) l in
    let g : upper_of b n ≡ None = ap next_string (sym (ap (λ x. take n x) e)) ∙ h in
    rw g at u

pub next_is_upper : (b s : List ℕ) (n : ℕ) (r : Result (Option (List ℕ)) VortexError) → s ≡ b → IsString s → n ≤ length b
    → GivesOrNoMemory (λ next. next ≡ next_string (take n s)) r
    → MatchResult r (λ o. MatchOption o (HasNoUpper b n) (λ bound. IsUpper b n bound)) (λ e. e ≡ OutOfMemory)
next_is_upper b s n (Ok (Some r)) e v l h = upper_some b s r n e v l (sym h)
next_is_upper b s n (Ok None) e v l h = upper_none b s n e v l (sym h)
next_is_upper b s n (Err f) e v l h = h
