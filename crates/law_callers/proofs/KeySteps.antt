-- Steps of callers: orders by keys are orders by contents, and by `partial_cmp`.
use Rattle.std.proofs.Common.{◌≡◌, ℕ, inl, inr, ◌+◌, ◌≤◌, List, [], ◌++◌, get_or, Bool, true, false, true≢false, if◌then◌else◌, Option, Some, None, Ordering, Less, Equal, Greater, nat_cmp, refl, sym, subst, ap, ap₂, ◌∙◌, arith}
use Rattle.std.specs.Cmp.{IsStrictWeakOrder, IsTotalOrder}
use Rattle.std.specs.Cmp.Lexicographic.{slice_cmp}
use Rattle.std.specs.List.{All}
use Rattle.std.specs.List.Sorted.{IsSorted, IsSortedBy, IsNonDecreasingBy, IsPartitionPoint}
use Rattle.std.specs.Ordering.{is_lt, is_gt, is_some_and, ordering_index, ordering_reverse}
use Rattle.std.proofs.lemmas.Bool.{cases_lt}
use Rattle.std.proofs.lemmas.Cmp.{nat_list_cmp_total, on_total, upto, tied_itself}
use Rattle.std.proofs.lemmas.Map.Lookups.{exact_bytes}
use Rattle.std.proofs.lemmas.List.Sorted.{IsNonDecreasingBy-from_all_adjacent, ranks_by}
use Rattle.vortex_value.specs.Equality.{EqualContents, same_type}
use Rattle.vortex_value.specs.Order.{order}
use Rattle.vortex_value.specs.Values.Scalars.{scalar_content, scalar_order, scalar_type}
use Rattle.vortex_value.specs.Lemmas.EqualityLaws.{equal-itself, equal-one}
use Rattle.law_callers.specs.Keyed.{HasEqualContent, is_below, keyed_cmp}
use Rattle.vortex_row.specs.Keys.{key}
use Rattle.law_callers.specs.declared.keyed.Keyed.{Keyed}
use Rattle.vortex_row.specs.Laws.{KeysAreOrdered, OrderIsContentOrder, KeysAreApart}

-- the order of keys is that of the contents

abbrev pub by_key : Keyed → Keyed → Ordering
by_key x y = slice_cmp nat_cmp x.bytes.items y.bytes.items

pub by_key-is : KeysAreOrdered → (x y : Keyed) → by_key x y ≡ keyed_cmp x y
by_key-is l x y = ap₂ (slice_cmp nat_cmp) x.keyed y.keyed ∙ l.contents (scalar_content x.scalar) (scalar_content y.scalar) x.held y.held

by_key-total : IsTotalOrder by_key
by_key-total = on_total (λ x. x.bytes.items) nat_list_cmp_total

pub keyed-ranks : KeysAreOrdered → IsStrictWeakOrder (λ x y. is_lt (keyed_cmp x y))
keyed-ranks l =
    subst (λ (cmp : Keyed → Keyed → Ordering). IsStrictWeakOrder (λ x y. is_lt (cmp x y))) (λ i x y. by_key-is l x y i) (ranks_by nat_list_cmp_total (λ x. x.bytes.items))

pub sorted-contents : KeysAreOrdered → (xs : List Keyed) → IsSorted by_key xs → IsSorted keyed_cmp xs
sorted-contents l xs h k d low less = subst (λ o. is_lt o ≡ false) (by_key-is l (get_or xs (k + 1) d) (get_or xs k d)) (h k d low less)

sorted-keys : KeysAreOrdered → (xs : List Keyed) → IsSorted keyed_cmp xs → IsSorted by_key xs
sorted-keys l xs h k d low less = subst (λ o. is_lt o ≡ false) (sym (by_key-is l (get_or xs (k + 1) d) (get_or xs k d))) (h k d low less)

-- and that of `partial_cmp`, where it has one

below-by : (p : Option Ordering) (o : Ordering) → ((r : Ordering) → p ≡ Some r → o ≡ r) → is_lt o ≡ false → is_some_and is_lt p ≡ false
below-by None o f h = refl
below-by (Some r) o f h = ap is_lt (sym (f r refl)) ∙ h

of_same : (b : Bool) (p : Option Ordering) (r : Ordering) → (if b then p else None) ≡ Some r → p ≡ Some r
of_same true p r e = e
of_same false p r e = absurd (cc)

by_content : OrderIsContentOrder → (x y : Keyed) (r : Ordering) → scalar_order x.scalar y.scalar ≡ Some r → keyed_cmp x y ≡ r
by_content l x y r e =
    let c = scalar_content x.scalar in
    let d = scalar_content y.scalar in
    l.contents c d r (of_same (same_type (scalar_type x.scalar) (scalar_type y.scalar)) (order c d) r e)

pub sorted-partial : OrderIsContentOrder → (xs : List Keyed) → IsSorted keyed_cmp xs → IsSortedBy is_below xs
sorted-partial l xs h k d low less =
    let x = get_or xs (k + 1) d in
    let y = get_or xs k d in
    below-by (scalar_order x.scalar y.scalar) (keyed_cmp x y) (by_content l x y) (h k d low less)

-- the order with what is sought does not fall

not-greater : (x y : Keyed) → is_lt (by_key y x) ≡ false → is_gt (by_key x y) ≡ false
not-greater x y h = turned (by_key x y) (by_key y x) (by_key-total.antisymm x y) h
  where
    turned : (o r : Ordering) → o ≡ ordering_reverse r → is_lt r ≡ false → is_gt o ≡ false
    turned o Less e h = absurd (cc)
    turned o Equal e h = rw e refl
    turned o Greater e h = rw e refl

rises : (x y s : Keyed) → is_gt (by_key x y) ≡ false → ordering_index (by_key x s) ≤ ordering_index (by_key y s)
rises x y s h = by_cases (by_key x s) (by_key y s) refl refl
  where
    by_cases : (o r : Ordering) → by_key x s ≡ o → by_key y s ≡ r → ordering_index o ≤ ordering_index r
    by_cases Less r e f = omega arith
    by_cases Equal Equal e f = omega arith
    by_cases Equal Greater e f = omega arith
    by_cases Greater Greater e f = omega arith
    by_cases Equal Less e f =
        let same : by_key s y ≡ Greater = by_key-total.antisymm s y ∙ ap ordering_reverse f in
        let there : by_key x y ≡ Greater = by_key-total.congr x s y e ∙ same in
        absurd (true≢false (sym (ap is_gt there) ∙ h))
    by_cases Greater Less e f = absurd (true≢false (sym (ap is_gt e) ∙ upto by_key-total x y s h (ap is_gt f)))
    by_cases Greater Equal e f = absurd (true≢false (sym (ap is_gt e) ∙ upto by_key-total x y s h (ap is_gt f)))

pub never-falls : KeysAreOrdered → (xs : List Keyed) (s : Keyed) → IsSorted keyed_cmp xs → IsNonDecreasingBy (λ x. ordering_index (by_key x s)) xs
never-falls l xs s h =
    IsNonDecreasingBy-from_all_adjacent (λ x. ordering_index (by_key x s)) xs
    (λ k d less. let x = get_or xs k d in let y = get_or xs (k + 1) d in rises x y s (not-greater x y (sorted-keys l xs h k d (omega arith) less)))

-- what is found has an equal content, and what has one is found

pub equal-found : KeysAreApart → (x s : Keyed) → by_key x s ≡ Equal → HasEqualContent s x
equal-found l x s e =
    let c = scalar_content s.scalar in
    let d = scalar_content x.scalar in
    let keys : key c ≡ key d = sym (sym x.keyed ∙ exact_bytes x.bytes.items s.bytes.items e ∙ s.keyed) in
    let same = l.contents c d [] [] s.plain s.held x.held (ap (λ bs. bs ++ []) keys) in
    subst (EqualContents c) same.0 (equal-itself c)

pub found-equal : (x s : Keyed) → HasEqualContent s x → by_key x s ≡ Equal
found-equal x s e =
    let same = equal-one (scalar_content s.scalar) (scalar_content x.scalar) s.plain e in
    let keys : x.bytes.items ≡ s.bytes.items = x.keyed ∙ ap key (sym same) ∙ sym s.keyed in
    ap (λ bs. slice_cmp nat_cmp bs s.bytes.items) keys ∙ tied_itself by_key-total s

pub none-equal : (xs : List Keyed) (s : Keyed) (i : ℕ) → IsPartitionPoint (λ x. by_key x s ≡ Less) (λ x. by_key x s ≡ Greater) xs i → All (λ x. ¬ (HasEqualContent s x)) xs
none-equal xs s i h k d less = λ e. elim (cases_lt k i) [
  | inl low ↦ less-equal (sym (h.0 k d (omega arith) low) ∙ found-equal (get_or xs k d) s e)
  | inr high ↦ greater-equal (sym (h.1 k d high less) ∙ found-equal (get_or xs k d) s e)
]
  where
    less-equal : Less ≡ Equal → ⊥
    less-equal e = cc

    greater-equal : Greater ≡ Equal → ⊥
    greater-equal e = cc
