-- A coerced formula says what the formula says by contents, on rows of the columns' types, and fits the columns.
use Rattle.std.proofs.Common.{◌≡◌, ◌⊎◌, inl, inr, ℕ, zero, suc, ℤ, pos, negsuc, ◌<◌, ◌^◌, Bool, true, false, ◌||◌, cond, List, [], ◌∷◌, ◌++◌, map, fold, Option, Some, None, Less, Greater, refl, sym, subst, ap, ap₂, ◌∙◌, option_map, ◌<ℤ◌, nat_lt, arith}
use Rattle.std.specs.List.{slice_get}
use Rattle.std.specs.Ordering.{int_cmp}
use Rattle.std.specs.Cmp.{int_cmp_is}
use Rattle.std.proofs.lemmas.Bool.{false≢true, not-true}
use Rattle.std.proofs.lemmas.Bool.Decides.{nat_tests}
use Rattle.std.proofs.lemmas.Int.{ints}
use Rattle.std.proofs.lemmas.Option.{slice_get-map}
use Rattle.like_patterns.specs.declared.case.Case.{Case}
use Rattle.like_patterns.specs.Patterns.{Part}
use Rattle.vortex_dtype.specs.Parts.{is_utf8_type}
use Rattle.vortex_dtype.specs.TypeTree.{TypeTree, integer_type, utf8_type, Same, as_nullable}
use Rattle.vortex_dtype.specs.declared.nullability.Nullability.{Nullability}
use Rattle.vortex_dtype.specs.declared.nullability.Nullability.TheVariants.{Nullable}
use Rattle.vortex_dtype.specs.declared.ptype.PType.{PType}
use Rattle.vortex_dtype.specs.declared.ptype.PType.TheVariants.{U8, U16, U32, U64, I8, I16, I32, I64}
use Rattle.vortex_pvalue.specs.Numbers.{InRange, in_range, in_signed, in_unsigned}
use Rattle.vortex_pvalue.specs.RangeLaws.{in_range_true}
use Rattle.vortex_value.specs.Equality.{same_type}
use Rattle.vortex_value.specs.Laws.HasContent.{HasContent}
use Rattle.vortex_value.specs.Lemmas.EqualityLaws.{same_type-Decides}
use Rattle.vortex_value.specs.Order.{order}
use Rattle.vortex_value.specs.Values.Content.{Content, null, whole}
use Rattle.vortex_cells.specs.Cells.{Cell, cell_or_null, is_null_cell, is_null_content}
use Rattle.vortex_filter.specs.declared.operator.CompareOperator.{CompareOperator}
use Rattle.vortex_filter.specs.declared.operator.CompareOperator.TheVariants.{Eq, Gte, Lte}
use Rattle.vortex_filter.specs.declared.truth.Truth.{Truth}
use Rattle.vortex_filter.specs.declared.truth.Truth.TheVariants.{False, Unknown, True}
use Rattle.vortex_filter.specs.Checking.{AllFit, HoldsText, IsOfType, Test, tests}
use Rattle.vortex_filter.specs.Coercing.{by_column, coerced, coerced_cell, lacks, lacks_number, position_in, side}
use Rattle.vortex_filter.specs.Formula.{Formula, constant, comparison, null_test, membership, range, prefix_test, pattern_test, both, either, negation, cell_at, compare_truth, member_truth, order_truth, truth}
use Rattle.vortex_filter.specs.Operators.{holds}
use Rattle.vortex_filter.specs.PatternTests.{match_truth, pattern_truth}
use Rattle.vortex_filter.specs.Positions.{PositionTree, exactly, just_above, lacking, cells_of, comparison_of, for_values, member_among, member_of, range_of}
use Rattle.vortex_filter.specs.Prefixes.{begins, begins_truth, prefix_truth}
use Rattle.vortex_filter.specs.Rows.{IsCellOf, IsRowOf, content_truth, untyped_cell}
use Rattle.vortex_filter.specs.Truths.{truth_and, truth_not, truth_of, truth_or}
use Rattle.vortex_filter.proofs.CheckLaws.{fit_both}
use Rattle.vortex_filter.proofs.PositionLaws.{CellFits, CellsFit, comparison_fits, membership_fits, nothing_fits, pattern_fits, prefix_fits, range_fits}

-- ---- numbers that a type lacks

-- a number of fewer bits, and one that does not fit
below : (n m b : ℕ) → nat_lt n b ≡ true → nat_lt m b ≡ false → n < m
below n m b e f = grind (arith, nat_tests)

zero_below : (n m b : ℕ) → nat_lt n b ≡ true → nat_lt m b ≡ false → 0 < m
zero_below n m b e f = grind (arith, nat_tests)

both_less : (w z : ℤ) → w <ℤ z → pos 0 <ℤ z → int_cmp w z ≡ int_cmp (pos 0) z
both_less w z h k = sym (int_cmp_is w z Less h) ∙ int_cmp_is (pos 0) z Less k

both_greater : (w z : ℤ) → z <ℤ w → z <ℤ pos 0 → int_cmp w z ≡ int_cmp (pos 0) z
both_greater w z h k = sym (int_cmp_is w z Greater h) ∙ int_cmp_is (pos 0) z Greater k

unsigned_side : (bits : ℕ) (w z : ℤ) → in_unsigned bits w ≡ true → in_unsigned bits z ≡ false → int_cmp w z ≡ int_cmp (pos 0) z
unsigned_side bits (pos n) (pos m) e f =
    let h : n < m = below n m (2 ^ bits) e f in
    let k : 0 < m = zero_below n m (2 ^ bits) e f in
    both_less (pos n) (pos m) (omega (arith, ints)) (omega (arith, ints))
unsigned_side bits (pos n) (negsuc m) e f = both_greater (pos n) (negsuc m) (omega (arith, ints)) (omega (arith, ints))
unsigned_side bits (negsuc n) z e f = absurd (false≢true e)

signed_side : (bits : ℕ) (w z : ℤ) → in_signed bits w ≡ true → in_signed bits z ≡ false → int_cmp w z ≡ int_cmp (pos 0) z
signed_side bits (pos n) (pos m) e f =
    let h : n < m = below n m (2 ^ bits) e f in
    let k : 0 < m = zero_below n m (2 ^ bits) e f in
    both_less (pos n) (pos m) (omega (arith, ints)) (omega (arith, ints))
signed_side bits (pos n) (negsuc m) e f = both_greater (pos n) (negsuc m) (omega (arith, ints)) (omega (arith, ints))
signed_side bits (negsuc n) (pos m) e f =
    let k : 0 < m = zero_below n m (2 ^ bits) e f in
    both_less (negsuc n) (pos m) (omega (arith, ints)) (omega (arith, ints))
signed_side bits (negsuc n) (negsuc m) e f =
    let h : n < m = below n m (2 ^ bits) e f in
    both_greater (negsuc n) (negsuc m) (omega (arith, ints)) (omega (arith, ints))

range_side : (k : PType) (w z : ℤ) → in_range k w ≡ true → in_range k z ≡ false → int_cmp w z ≡ int_cmp (pos 0) z
range_side U8 w z e f = unsigned_side 8 w z e f
range_side U16 w z e f = unsigned_side 16 w z e f
range_side U32 w z e f = unsigned_side 32 w z e f
range_side U64 w z e f = unsigned_side 64 w z e f
range_side I8 w z e f = signed_side 7 w z e f
range_side I16 w z e f = signed_side 15 w z e f
range_side I32 w z e f = signed_side 31 w z e f
range_side I64 w z e f = signed_side 63 w z e f

-- ---- a cell of the column

-- a null, or a cell of the type
abbrev MayStandIn : TypeTree → Cell → Type 0
MayStandIn t c = (is_null_cell c ≡ true) ⊎ IsCellOf t c

cell_is_of : (columns : List TypeTree) (row : List Cell) (k : ℕ) (t : TypeTree) → IsRowOf columns row → slice_get columns k ≡ Some t → MayStandIn t (cell_at row k)
cell_is_of columns row k t r e = by_cell (slice_get row k) refl
  where
    by_cell : (o : Option Cell) → slice_get row k ≡ o → MayStandIn t (cell_or_null o)
    by_cell None h = inl refl
    by_cell (Some c) h = inr (r k t c e h)

-- what is said of a cell of the row without types, if it is the same of a null past the end, whatever its type is
untyped_at : (P : Cell → Truth) → P (cell_or_null None) ≡ P (untyped_cell (cell_or_null None)) → (row : List Cell) (k : ℕ) → P (cell_at (map untyped_cell row) k) ≡ P (untyped_cell (cell_at row k))
untyped_at P past row k = ap (λ o. P (cell_or_null o)) (slice_get-map untyped_cell row k) ∙ by_cell (slice_get row k)
  where
    by_cell : (o : Option Cell) → P (cell_or_null (option_map untyped_cell o)) ≡ P (untyped_cell (cell_or_null o))
    by_cell None = past
    by_cell (Some c) = refl

-- ---- a literal of the column's type

-- a type made nullable is the same up to nullability
abbrev pub NullableIsSame : Type 0
NullableIsSame = (t : TypeTree) → Same (as_nullable t) t

coerced_same : NullableIsSame → (t : TypeTree) (x : Cell) → Same t (coerced_cell t x).typed
coerced_same nullable t x = by_test (same_type t x.typed) refl
  where
    by_test : (b : Bool) → same_type t x.typed ≡ b → Same t (cond b x (record { typed = as_nullable t; content = x.content })).typed
    by_test true e = (same_type-Decides t x.typed).0 e
    by_test false e = sym (nullable t)

coerced_content : (t : TypeTree) (x : Cell) → (coerced_cell t x).content ≡ x.content
coerced_content t x = by_test (same_type t x.typed)
  where
    by_test : (b : Bool) → (cond b x (record { typed = as_nullable t; content = x.content })).content ≡ x.content
    by_test true = refl
    by_test false = refl

-- of cells of one type, the contents decide
same_truth : (op : CompareOperator) (c x : Cell) → (is_null_cell c ≡ true) ⊎ (same_type c.typed x.typed ≡ true) → compare_truth op c x ≡ compare_truth op (untyped_cell c) (untyped_cell x)
same_truth op c x (inl n) =
    ap (λ b. cond (b || is_null_cell x) Unknown (order_truth op (cond (same_type c.typed x.typed) (order c.content x.content) None))) n
    ∙ sym (ap (λ b. cond (b || is_null_cell x) Unknown (order_truth op (order c.content x.content))) n)
same_truth op c x (inr e) = ap (λ b. cond (is_null_cell c || is_null_cell x) Unknown (order_truth op (cond b (order c.content x.content) None))) e

same_prefix : (c p : Cell) → (is_null_cell c ≡ true) ⊎ (same_type c.typed p.typed ≡ true) → prefix_truth c p ≡ prefix_truth (untyped_cell c) (untyped_cell p)
same_prefix c p (inl n) = ap begins_truth (by_test (same_type c.typed p.typed) (no_beginning c.content n)) ∙ sym (ap begins_truth (no_beginning c.content n))
  where
    no_beginning : (d : Content) → is_null_content d ≡ true → begins d p.content ≡ None
    no_beginning null e = refl
    no_beginning _ e = absurd (false≢true e)

    by_test : (b : Bool) → begins c.content p.content ≡ None → cond b (begins c.content p.content) None ≡ None
    by_test true e = e
    by_test false e = refl
same_prefix c p (inr e) = ap (λ b. begins_truth (cond b (begins c.content p.content) None)) e

-- what stands in the column is of the type of the coerced literal
alike : NullableIsSame → (t : TypeTree) (c x : Cell) → MayStandIn t c → (is_null_cell c ≡ true) ⊎ (same_type c.typed (coerced_cell t x).typed ≡ true)
alike nullable t c x (inl n) = inl n
alike nullable t c x (inr o) = inr ((same_type-Decides c.typed (coerced_cell t x).typed).1 (sym o.same ∙ coerced_same nullable t x))

cast_truth : NullableIsSame → (t : TypeTree) (op : CompareOperator) (c x : Cell) → MayStandIn t c → compare_truth op c (coerced_cell t x) ≡ compare_truth op (untyped_cell c) (untyped_cell x)
cast_truth nullable t op c x m = same_truth op c (coerced_cell t x) (alike nullable t c x m) ∙ ap (λ d. compare_truth op (untyped_cell c) (record { typed = utf8_type Nullable; content = d })) (coerced_content t x)

cast_prefix : NullableIsSame → (t : TypeTree) (c p : Cell) → MayStandIn t c → prefix_truth c (coerced_cell t p) ≡ prefix_truth (untyped_cell c) (untyped_cell p)
cast_prefix nullable t c p m = same_prefix c (coerced_cell t p) (alike nullable t c p m) ∙ ap (λ d. prefix_truth (untyped_cell c) (record { typed = utf8_type Nullable; content = d })) (coerced_content t p)

-- ---- patterns

string_type : (n : Nullability) (s : TypeTree) → Same (utf8_type n) s → is_utf8_type s ≡ true
string_type n (utf8_type m) e = refl
string_type n _ e = cc

strings_typed : (t s : TypeTree) → HoldsText t → Same t s → is_utf8_type s ≡ true
strings_typed (utf8_type n) s h e = string_type n s e
strings_typed _ s h e = absurd h

-- what stands in a column of strings is a null or a string
same_match : (case : Case) (parts : List Part) (t : TypeTree) (c : Cell) → HoldsText t → MayStandIn t c → pattern_truth case parts c ≡ pattern_truth case parts (untyped_cell c)
same_match case parts t c h (inl n) = by_test (is_utf8_type c.typed) (no_match c.content n) ∙ sym (no_match c.content n)
  where
    no_match : (d : Content) → is_null_content d ≡ true → match_truth case parts d ≡ Unknown
    no_match null e = refl
    no_match _ e = absurd (false≢true e)

    by_test : (b : Bool) → match_truth case parts c.content ≡ Unknown → cond b (match_truth case parts c.content) Unknown ≡ Unknown
    by_test true e = e
    by_test false e = refl
same_match case parts t c h (inr o) = ap (λ b. cond b (match_truth case parts c.content) Unknown) (strings_typed t c.typed h o.same)

-- ---- a literal that the column's type lacks

null_says : (op : CompareOperator) (c x : Cell) → is_null_cell c ≡ true → compare_truth op (untyped_cell c) (untyped_cell x) ≡ Unknown
null_says op c x n = ap (λ b. cond (b || is_null_cell x) Unknown (order_truth op (order c.content x.content))) n

-- a value of an integer type
number_of : (k l : PType) (c : Content) (n : Nullability) → l ≡ k → HasContent (integer_type l n) c → is_null_content c ≡ false → (w : ℤ) × (c ≡ whole w) × InRange k w
number_of k l null n e h f = absurd (false≢true (sym f))
number_of k l (whole w) n e h f = (w, refl, subst (λ j. InRange j w) e h)
number_of k l _ n e h f = absurd h

number_in : (k : PType) (m : Nullability) (s : TypeTree) (c : Content) → Same (integer_type k m) s → HasContent s c → is_null_content c ≡ false → (w : ℤ) × (c ≡ whole w) × InRange k w
number_in k m (integer_type l n) c e h f = let same : l ≡ k = cc in number_of k l c n same h f
number_in k m _ c e h f = cc

-- how a value of an integer type stands to what the type lacks
apart_at : (op : CompareOperator) (k : PType) (z : ℤ) (c : Content) → in_range k z ≡ false → ((w : ℤ) × (c ≡ whole w) × InRange k w)
    → cond (is_null_content c || false) Unknown (order_truth op (order c (whole z))) ≡ truth_of (holds op (int_cmp (pos 0) z))
apart_at op k z c f p =
    ap (λ d. cond (is_null_content d || false) Unknown (order_truth op (order d (whole z)))) p.1
    ∙ ap (λ o. truth_of (holds op o)) (range_side k p.0 z (in_range_true k p.0 p.2) f)

apart_content : (op : CompareOperator) (k : PType) (m : Nullability) (l : PType) (n : Nullability) (x : Content) (s : TypeTree) (c : Content) → lacks_number (integer_type k m) (integer_type l n) x ≡ true
    → Same (integer_type k m) s → HasContent s c → is_null_content c ≡ false → cond (is_null_content c || is_null_content x) Unknown (order_truth op (order c x)) ≡ truth_of (holds op (side x))
apart_content op k m l n (whole z) s c e same h f = apart_at op k z c (not-true (in_range k z) e) (number_in k m s c same h f)
apart_content op k m l n _ s c e same h f = absurd (false≢true e)

apart_literal : (op : CompareOperator) (k : PType) (m : Nullability) (u : TypeTree) (x : Content) (s : TypeTree) (c : Content) → lacks_number (integer_type k m) u x ≡ true
    → Same (integer_type k m) s → HasContent s c → is_null_content c ≡ false → cond (is_null_content c || is_null_content x) Unknown (order_truth op (order c x)) ≡ truth_of (holds op (side x))
apart_literal op k m (integer_type l n) x s c e same h f = apart_content op k m l n x s c e same h f
apart_literal op k m _ x s c e same h f = absurd (false≢true e)

apart : (op : CompareOperator) (t u : TypeTree) (x : Content) (s : TypeTree) (c : Content) → lacks_number t u x ≡ true
    → Same t s → HasContent s c → is_null_content c ≡ false → cond (is_null_content c || is_null_content x) Unknown (order_truth op (order c x)) ≡ truth_of (holds op (side x))
apart op (integer_type k m) u x s c e same h f = apart_literal op k m u x s c e same h f
apart op _ u x s c e same h f = absurd (false≢true e)

lacks_number_from : (t : TypeTree) (x : Cell) → lacks t x ≡ true → lacks_number t x.typed x.content ≡ true
lacks_number_from t x l = by_test (same_type t x.typed) l
  where
    by_test : (b : Bool) → cond b false (lacks_number t x.typed x.content) ≡ true → lacks_number t x.typed x.content ≡ true
    by_test true e = absurd (false≢true e)
    by_test false e = e

lacking_says : (op : CompareOperator) (t : TypeTree) (c x : Cell) → lacks t x ≡ true → IsCellOf t c → is_null_cell c ≡ false → compare_truth op (untyped_cell c) (untyped_cell x) ≡ truth_of (holds op (side x.content))
lacking_says op t c x l o n = apart op t x.typed x.content c.typed c.content (lacks_number_from t x l) o.same o.has n

-- ---- the filter for values and nulls

pub settled_null : (b : Bool) (k : ℕ) (row : List Cell) → is_null_cell (cell_at row k) ≡ true → truth (for_values b k) row ≡ Unknown
settled_null true k row n = ap (λ c. truth_or (truth_not (truth_of c)) Unknown) n
settled_null false k row n = ap (λ c. truth_and (truth_of c) Unknown) n

pub settled_value : (b : Bool) (k : ℕ) (row : List Cell) → is_null_cell (cell_at row k) ≡ false → truth (for_values b k) row ≡ truth_of b
settled_value true k row n = ap (λ c. truth_or (truth_not (truth_of c)) Unknown) n
settled_value false k row n = ap (λ c. truth_and (truth_of c) Unknown) n

either_way : (b : Bool) → (b ≡ true) ⊎ (b ≡ false)
either_way true = inl refl
either_way false = inr refl

settled_truth : (t : TypeTree) (op : CompareOperator) (k : ℕ) (x : Cell) (row : List Cell) → MayStandIn t (cell_at row k) → lacks t x ≡ true
    → truth (for_values (holds op (side x.content)) k) row ≡ compare_truth op (untyped_cell (cell_at row k)) (untyped_cell x)
settled_truth t op k x row (inl n) l = settled_null (holds op (side x.content)) k row n ∙ sym (null_says op (cell_at row k) x n)
settled_truth t op k x row (inr o) l = by_null (either_way (is_null_cell (cell_at row k)))
  where
    by_null : (is_null_cell (cell_at row k) ≡ true) ⊎ (is_null_cell (cell_at row k) ≡ false) → truth (for_values (holds op (side x.content)) k) row ≡ compare_truth op (untyped_cell (cell_at row k)) (untyped_cell x)
    by_null (inl n) = settled_null (holds op (side x.content)) k row n ∙ sym (null_says op (cell_at row k) x n)
    by_null (inr n) = settled_value (holds op (side x.content)) k row n ∙ sym (lacking_says op t (cell_at row k) x l o n)

-- ---- each kind of test

comparison_truth : NullableIsSame → (t : TypeTree) (op : CompareOperator) (k : ℕ) (x : Cell) (row : List Cell) → MayStandIn t (cell_at row k)
    → truth (comparison_of k op (position_in t x)) row ≡ compare_truth op (untyped_cell (cell_at row k)) (untyped_cell x)
comparison_truth nullable t op k x row m = by_test (lacks t x) refl
  where
    by_test : (b : Bool) → lacks t x ≡ b → truth (comparison_of k op (cond b (lacking (side x.content)) (exactly (coerced_cell t x)))) row ≡ compare_truth op (untyped_cell (cell_at row k)) (untyped_cell x)
    by_test true l = settled_truth t op k x row m l
    by_test false l = cast_truth nullable t op (cell_at row k) x m

-- a range is two comparisons
halves_truth : (k : ℕ) (p q : PositionTree) (row : List Cell) → truth (range_of k p q) row ≡ truth_and (truth (comparison_of k Gte p) row) (truth (comparison_of k Lte q) row)
halves_truth k (exactly x) (exactly y) row = refl
halves_truth k (exactly x) (just_above y) row = refl
halves_truth k (exactly x) (lacking o) row = refl
halves_truth k (just_above x) (exactly y) row = refl
halves_truth k (just_above x) (just_above y) row = refl
halves_truth k (just_above x) (lacking o) row = refl
halves_truth k (lacking o) (exactly y) row = refl
halves_truth k (lacking o) (just_above y) row = refl
halves_truth k (lacking o) (lacking r) row = refl

range_truth_is : NullableIsSame → (t : TypeTree) (k : ℕ) (x y : Cell) (row : List Cell) → MayStandIn t (cell_at row k)
    → truth (range_of k (position_in t x) (position_in t y)) row ≡ truth_and (compare_truth Gte (untyped_cell (cell_at row k)) (untyped_cell x)) (compare_truth Lte (untyped_cell (cell_at row k)) (untyped_cell y))
range_truth_is nullable t k x y row m =
    halves_truth k (position_in t x) (position_in t y) row ∙ ap₂ truth_and (comparison_truth nullable t Gte k x row m) (comparison_truth nullable t Lte k y row m)

-- ---- memberships

-- an Or of equalities, from the truth so far
abbrev tally : Cell → Truth → List Cell → Truth
tally c acc xs = fold (λ t x. truth_or t (compare_truth Eq c x)) acc xs

-- of a null
abbrev blank : Truth → List Cell → Truth
blank acc [] = acc
blank acc (x ∷ xs) = truth_or acc Unknown

or_unknown_twice : (t : Truth) → truth_or (truth_or t Unknown) Unknown ≡ truth_or t Unknown
or_unknown_twice False = refl
or_unknown_twice Unknown = refl
or_unknown_twice True = refl

or_false_is : (t : Truth) → truth_or t False ≡ t
or_false_is False = refl
or_false_is Unknown = refl
or_false_is True = refl

blank_again : (t : Truth) (xs : List Cell) → blank (truth_or t Unknown) xs ≡ truth_or t Unknown
blank_again t [] = refl
blank_again t (x ∷ xs) = or_unknown_twice t

compare_null : (c x : Cell) → is_null_cell c ≡ true → compare_truth Eq c x ≡ Unknown
compare_null c x n = ap (λ b. cond (b || is_null_cell x) Unknown (order_truth Eq (cond (same_type c.typed x.typed) (order c.content x.content) None))) n

tally_null : (c : Cell) (acc : Truth) (xs : List Cell) → is_null_cell c ≡ true → tally c acc xs ≡ blank acc xs
tally_null c acc [] n = refl
tally_null c acc (x ∷ xs) n = ap (λ t. tally c (truth_or acc t) xs) (compare_null c x n) ∙ tally_null c (truth_or acc Unknown) xs n ∙ blank_again acc xs

-- 0 is a number of each type
zero_in_range : (k : PType) → in_range k (pos 0) ≡ true
zero_in_range U8 = refl
zero_in_range U16 = refl
zero_in_range U32 = refl
zero_in_range U64 = refl
zero_in_range I8 = refl
zero_in_range I16 = refl
zero_in_range I32 = refl
zero_in_range I64 = refl

never_zero : (k : PType) (z : ℤ) → in_range k z ≡ false → holds Eq (int_cmp (pos 0) z) ≡ false
never_zero k (pos zero) f = absurd (false≢true (sym f ∙ zero_in_range k))
never_zero k (pos (suc m)) f = ap (holds Eq) (sym (int_cmp_is (pos 0) (pos (suc m)) Less (omega (arith, ints))))
never_zero k (negsuc m) f = refl

never_equal_content : (k : PType) (m : Nullability) (l : PType) (n : Nullability) (x : Content) → lacks_number (integer_type k m) (integer_type l n) x ≡ true → holds Eq (side x) ≡ false
never_equal_content k m l n (whole z) e = never_zero k z (not-true (in_range k z) e)
never_equal_content k m l n _ e = absurd (false≢true e)

never_equal_literal : (k : PType) (m : Nullability) (u : TypeTree) (x : Content) → lacks_number (integer_type k m) u x ≡ true → holds Eq (side x) ≡ false
never_equal_literal k m (integer_type l n) x e = never_equal_content k m l n x e
never_equal_literal k m _ x e = absurd (false≢true e)

never_equal : (t u : TypeTree) (x : Content) → lacks_number t u x ≡ true → holds Eq (side x) ≡ false
never_equal (integer_type k m) u x e = never_equal_literal k m u x e
never_equal _ u x e = absurd (false≢true e)

-- what is left out says False of a value
left_out : (t : TypeTree) (c x : Cell) → lacks t x ≡ true → IsCellOf t c → is_null_cell c ≡ false → compare_truth Eq (untyped_cell c) (untyped_cell x) ≡ False
left_out t c x l o n = lacking_says Eq t c x l o n ∙ ap truth_of (never_equal t x.typed x.content (lacks_number_from t x l))

kept_tally : NullableIsSame → (t : TypeTree) (c : Cell) → IsCellOf t c → is_null_cell c ≡ false → (acc : Truth) (xs : List Cell) → tally c acc (cells_of (map (position_in t) xs)) ≡ tally (untyped_cell c) acc (map untyped_cell xs)
kept_tally nullable t c o n acc [] = refl
kept_tally nullable t c o n acc (x ∷ xs) =
    by_test (lacks t x) refl (kept_tally nullable t c o n acc xs) (kept_tally nullable t c o n (truth_or acc (compare_truth Eq c (coerced_cell t x))) xs)
  where
    by_test : (b : Bool) → lacks t x ≡ b → tally c acc (cells_of (map (position_in t) xs)) ≡ tally (untyped_cell c) acc (map untyped_cell xs)
        → tally c (truth_or acc (compare_truth Eq c (coerced_cell t x))) (cells_of (map (position_in t) xs)) ≡ tally (untyped_cell c) (truth_or acc (compare_truth Eq c (coerced_cell t x))) (map untyped_cell xs)
        → tally c acc (cells_of (cond b (lacking (side x.content)) (exactly (coerced_cell t x)) ∷ map (position_in t) xs)) ≡ tally (untyped_cell c) (truth_or acc (compare_truth Eq (untyped_cell c) (untyped_cell x))) (map untyped_cell xs)
    by_test true l h k = h ∙ ap (λ a. tally (untyped_cell c) a (map untyped_cell xs)) (sym (ap (truth_or acc) (left_out t c x l o n) ∙ or_false_is acc))
    by_test false l h k = k ∙ ap (λ a. tally (untyped_cell c) (truth_or acc a) (map untyped_cell xs)) (cast_truth nullable t Eq c x (inr o))

member_null : (k : ℕ) (row : List Cell) (kept : List Cell) → is_null_cell (cell_at row k) ≡ true → truth (member_of k kept) row ≡ Unknown
member_null k row [] n = settled_null false k row n
member_null k row (y ∷ ys) n = tally_null (cell_at row k) False (y ∷ ys) n

member_value : (k : ℕ) (row : List Cell) (kept : List Cell) → is_null_cell (cell_at row k) ≡ false → truth (member_of k kept) row ≡ tally (cell_at row k) False kept
member_value k row [] n = settled_value false k row n
member_value k row (y ∷ ys) n = refl

member_past : (xs : List Cell) → member_truth (cell_or_null None) xs ≡ member_truth (untyped_cell (cell_or_null None)) xs
member_past xs = tally_null (cell_or_null None) False xs refl ∙ sym (tally_null (untyped_cell (cell_or_null None)) False xs refl)

membership_truth : NullableIsSame → (t : TypeTree) (k : ℕ) (xs : List Cell) (row : List Cell) → MayStandIn t (cell_at row k)
    → truth (member_among k (map (position_in t) xs)) row ≡ member_truth (untyped_cell (cell_at row k)) (map untyped_cell xs)
membership_truth nullable t k [] row m = refl
membership_truth nullable t k (x ∷ xs) row m = by_cell m (either_way (is_null_cell (cell_at row k)))
  where
    of_null : is_null_cell (cell_at row k) ≡ true → truth (member_of k (cells_of (map (position_in t) (x ∷ xs)))) row ≡ member_truth (untyped_cell (cell_at row k)) (map untyped_cell (x ∷ xs))
    of_null n = member_null k row (cells_of (map (position_in t) (x ∷ xs))) n ∙ sym (tally_null (untyped_cell (cell_at row k)) False (map untyped_cell (x ∷ xs)) n)

    by_cell : MayStandIn t (cell_at row k) → (is_null_cell (cell_at row k) ≡ true) ⊎ (is_null_cell (cell_at row k) ≡ false)
        → truth (member_of k (cells_of (map (position_in t) (x ∷ xs)))) row ≡ member_truth (untyped_cell (cell_at row k)) (map untyped_cell (x ∷ xs))
    by_cell (inl n) e = of_null n
    by_cell (inr o) (inl n) = of_null n
    by_cell (inr o) (inr n) = member_value k row (cells_of (map (position_in t) (x ∷ xs))) n ∙ kept_tally nullable t (cell_at row k) o n False (x ∷ xs)

-- ---- formulas

-- of any literal: only the column of a test counts
abbrev pub AnyLiteral : TypeTree → Cell → Type 0
AnyLiteral t x = Unit {0}

pub fits_left : (P : TypeTree → Cell → Type 0) (columns : List TypeTree) (ps qs : List (Test Cell)) → AllFit P columns (ps ++ qs) → AllFit P columns ps
fits_left P columns [] qs h = tt
fits_left P columns (p ∷ ps) qs h = (h.0, fits_left P columns ps qs h.1)

pub fits_right : (P : TypeTree → Cell → Type 0) (columns : List TypeTree) (ps qs : List (Test Cell)) → AllFit P columns (ps ++ qs) → AllFit P columns qs
fits_right P columns [] qs h = h
fits_right P columns (p ∷ ps) qs h = fits_right P columns ps qs h.1

pub coerced_truth : NullableIsSame → (columns : List TypeTree) (f : Formula) (row : List Cell) → IsRowOf columns row → AllFit AnyLiteral columns (tests f) → truth (coerced columns f) row ≡ content_truth f row
coerced_truth nullable columns (constant t) row r h = refl
coerced_truth nullable columns (comparison k op x) row r h =
    ap (λ o. truth (by_column o (comparison k op x) (λ t. comparison_of k op (position_in t x))) row) h.0.there
    ∙ comparison_truth nullable h.0.dtype op k x row (cell_is_of columns row k h.0.dtype r h.0.there)
    ∙ sym (untyped_at (λ c. compare_truth op c (untyped_cell x)) refl row k)
coerced_truth nullable columns (null_test k) row r h = sym (untyped_at (λ c. truth_of (is_null_cell c)) refl row k)
coerced_truth nullable columns (membership k xs) row r h =
    ap (λ o. truth (by_column o (membership k xs) (λ t. member_among k (map (position_in t) xs))) row) h.0.there
    ∙ membership_truth nullable h.0.dtype k xs row (cell_is_of columns row k h.0.dtype r h.0.there)
    ∙ sym (untyped_at (λ c. member_truth c (map untyped_cell xs)) (member_past (map untyped_cell xs)) row k)
coerced_truth nullable columns (range k x y) row r h =
    ap (λ o. truth (by_column o (range k x y) (λ t. range_of k (position_in t x) (position_in t y))) row) h.0.there
    ∙ range_truth_is nullable h.0.dtype k x y row (cell_is_of columns row k h.0.dtype r h.0.there)
    ∙ sym (untyped_at (λ c. truth_and (compare_truth Gte c (untyped_cell x)) (compare_truth Lte c (untyped_cell y))) refl row k)
coerced_truth nullable columns (prefix_test k p) row r h =
    ap (λ o. truth (by_column o (prefix_test k p) (λ t. prefix_test k (coerced_cell t p))) row) h.0.there
    ∙ cast_prefix nullable h.0.dtype (cell_at row k) p (cell_is_of columns row k h.0.dtype r h.0.there)
    ∙ sym (untyped_at (λ c. prefix_truth c (untyped_cell p)) refl row k)
coerced_truth nullable columns (pattern_test k case parts) row r h =
    same_match case parts h.0.dtype (cell_at row k) h.0.suits (cell_is_of columns row k h.0.dtype r h.0.there) ∙ sym (untyped_at (pattern_truth case parts) refl row k)
coerced_truth nullable columns (both f g) row r h =
    ap₂ truth_and (coerced_truth nullable columns f row r (fits_left AnyLiteral columns (tests f) (tests g) h)) (coerced_truth nullable columns g row r (fits_right AnyLiteral columns (tests f) (tests g) h))
coerced_truth nullable columns (either f g) row r h =
    ap₂ truth_or (coerced_truth nullable columns f row r (fits_left AnyLiteral columns (tests f) (tests g) h)) (coerced_truth nullable columns g row r (fits_right AnyLiteral columns (tests f) (tests g) h))
coerced_truth nullable columns (negation f) row r h = ap truth_not (coerced_truth nullable columns f row r h)

-- ---- a coerced formula fits

position_fits : NullableIsSame → (t : TypeTree) (x : Cell) → CellFits t (position_in t x)
position_fits nullable t x = by_test (lacks t x)
  where
    by_test : (b : Bool) → CellFits t (cond b (lacking (side x.content)) (exactly (coerced_cell t x)))
    by_test true = tt
    by_test false = coerced_same nullable t x

positions_fit : NullableIsSame → (t : TypeTree) (xs : List Cell) → CellsFit t (map (position_in t) xs)
positions_fit nullable t [] = tt
positions_fit nullable t (x ∷ xs) = (position_fits nullable t x, positions_fit nullable t xs)

pub coerced_fits : NullableIsSame → (columns : List TypeTree) (f : Formula) → AllFit AnyLiteral columns (tests f) → AllFit IsOfType columns (tests (coerced columns f))
coerced_fits nullable columns (constant t) h = tt
coerced_fits nullable columns (comparison k op x) h =
    subst (λ o. AllFit IsOfType columns (tests (by_column o (comparison k op x) (λ t. comparison_of k op (position_in t x))))) (sym h.0.there) (comparison_fits columns k h.0.dtype h.0.there h.0.ordered op (position_in h.0.dtype x) (position_fits nullable h.0.dtype x))
coerced_fits nullable columns (null_test k) h = nothing_fits columns k h.0.dtype h.0.there
coerced_fits nullable columns (membership k xs) h =
    subst (λ o. AllFit IsOfType columns (tests (by_column o (membership k xs) (λ t. member_among k (map (position_in t) xs))))) (sym h.0.there)
    (membership_fits columns k h.0.dtype h.0.there h.0.ordered (map (position_in h.0.dtype) xs) (positions_fit nullable h.0.dtype xs))
coerced_fits nullable columns (range k x y) h =
    subst (λ o. AllFit IsOfType columns (tests (by_column o (range k x y) (λ t. range_of k (position_in t x) (position_in t y))))) (sym h.0.there)
    (range_fits columns k h.0.dtype h.0.there h.0.ordered (position_in h.0.dtype x) (position_in h.0.dtype y) (position_fits nullable h.0.dtype x) (position_fits nullable h.0.dtype y))
coerced_fits nullable columns (prefix_test k p) h =
    subst (λ o. AllFit IsOfType columns (tests (by_column o (prefix_test k p) (λ t. prefix_test k (coerced_cell t p))))) (sym h.0.there)
    (prefix_fits columns k h.0.dtype h.0.there h.0.ordered (coerced_cell h.0.dtype p) h.0.suits.0 (coerced_same nullable h.0.dtype p))
coerced_fits nullable columns (pattern_test k case parts) h = pattern_fits columns k h.0.dtype h.0.there h.0.ordered h.0.suits
coerced_fits nullable columns (both f g) h =
    fit_both IsOfType columns (tests (coerced columns f)) (tests (coerced columns g)) (coerced_fits nullable columns f (fits_left AnyLiteral columns (tests f) (tests g) h)) (coerced_fits nullable columns g (fits_right AnyLiteral columns (tests f) (tests g) h))
coerced_fits nullable columns (either f g) h =
    fit_both IsOfType columns (tests (coerced columns f)) (tests (coerced columns g)) (coerced_fits nullable columns f (fits_left AnyLiteral columns (tests f) (tests g) h)) (coerced_fits nullable columns g (fits_right AnyLiteral columns (tests f) (tests g) h))
coerced_fits nullable columns (negation f) h = coerced_fits nullable columns f h
