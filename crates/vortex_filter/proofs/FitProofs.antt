-- A filter that fits is left as it is, and compares contents alone.
use Rattle.std.proofs.Common.{◌≡◌, ◌≢◌, ◌⊎◌, ◌↔◌, inl, inr, ℕ, Bool, true, false, ◌||◌, cond, List, [], ◌∷◌, map, Option, Some, None, Ordering, refl, sym, subst, ap, ap₂, ◌∙◌}
use Rattle.std.specs.List.{AllByRecursion, slice_get}
use Rattle.std.proofs.lemmas.Bool.{false≢true}
use Rattle.std.proofs.lemmas.Option.{same_Some}
use Rattle.vortex_dtype.specs.TypeTree.{TypeTree, Same, as_nullable, binary_type, bool_type, extension_type, integer_type, utf8_type}
use Rattle.vortex_dtype.specs.declared.nullability.Nullability.{Nullability}
use Rattle.vortex_dtype.specs.declared.ptype.PType.{PType}
use Rattle.vortex_value.specs.Equality.{same_type}
use Rattle.vortex_value.specs.Laws.HasContent.{HasContent}
use Rattle.vortex_value.specs.Lemmas.EqualityLaws.{same_type-Decides}
use Rattle.vortex_value.specs.Order.{order}
use Rattle.vortex_value.specs.Values.Content.{Content, null, truth as truth_content, whole, text, string}
use Rattle.vortex_cells.specs.Cells.{Cell, cell_or_null, is_null_cell, is_null_content}
use Rattle.vortex_filter.specs.declared.operator.CompareOperator.{CompareOperator}
use Rattle.vortex_filter.specs.declared.truth.Truth.TheVariants.{Unknown}
use Rattle.vortex_filter.specs.Checking.{AllFit, Demand, FitsColumns, IsOfType, Suits, Test, beginning, comparing, matching, nothing, tests}
use Rattle.vortex_filter.specs.Coercing.{by_column, coerced, coerced_cell, lacks, lacks_number, position_in, side}
use Rattle.vortex_filter.specs.FitLaws.{FittingComparesContents, IsPlainType, UnknownForNulls, UnknownWithoutOrder}
use Rattle.vortex_filter.specs.Formula.{Formula, constant, comparison, null_test, membership, range, prefix_test, pattern_test, both, either, negation, cell_at, order_truth, truth}
use Rattle.vortex_filter.specs.Operators.{holds}
use Rattle.vortex_filter.specs.Positions.{exactly, lacking, cells_of, comparison_of, member_among, member_of, range_of}
use Rattle.vortex_filter.specs.Rows.{IsCellOf, IsRowOf}
use Rattle.vortex_filter.specs.Truths.{truth_of}
use Rattle.vortex_filter.proofs.CoerceLaws.{AnyLiteral, NullableIsSame, coerced_truth, fits_left, fits_right}

-- ---- literals of the type are left as they are

fitting_cell : (t : TypeTree) (x : Cell) → Same t x.typed → coerced_cell t x ≡ x
fitting_cell t x s = ap (λ b. cond b x (record { typed = as_nullable t; content = x.content })) ((same_type-Decides t x.typed).1 s)

fitting_there : (t : TypeTree) (x : Cell) → Same t x.typed → lacks t x ≡ false
fitting_there t x s = ap (λ b. cond b false (lacks_number t x.typed x.content)) ((same_type-Decides t x.typed).1 s)

pub fitting_position : (t : TypeTree) (x : Cell) → Same t x.typed → position_in t x ≡ exactly x
fitting_position t x s = ap (λ b. cond b (lacking (side x.content)) (exactly (coerced_cell t x))) (fitting_there t x s) ∙ ap exactly (fitting_cell t x s)

fitting_cells : (t : TypeTree) (xs : List Cell) → AllByRecursion (IsOfType t) xs → cells_of (map (position_in t) xs) ≡ xs
fitting_cells t [] h = refl
fitting_cells t (x ∷ xs) h = ap (λ p. cells_of (p ∷ map (position_in t) xs)) (fitting_position t x h.0) ∙ ap (λ ys. x ∷ ys) (fitting_cells t xs h.1)

membership_itself : (t : TypeTree) (k : ℕ) (xs : List Cell) → AllByRecursion (IsOfType t) xs → member_among k (map (position_in t) xs) ≡ membership k xs
membership_itself t k [] h = refl
membership_itself t k (x ∷ xs) h = ap (member_of k) (fitting_cells t (x ∷ xs) h)

pub coerced_itself : (columns : List TypeTree) (f : Formula) → FitsColumns columns f → coerced columns f ≡ f
coerced_itself columns (constant t) h = refl
coerced_itself columns (comparison k op x) h =
    let t : TypeTree = h.0.dtype in
    ap (λ o. by_column o (comparison k op x) (λ t. comparison_of k op (position_in t x))) h.0.there
    ∙ ap (comparison_of k op) (fitting_position t x h.0.suits.0)
coerced_itself columns (null_test k) h = refl
coerced_itself columns (membership k xs) h =
    let t : TypeTree = h.0.dtype in
    ap (λ o. by_column o (membership k xs) (λ t. member_among k (map (position_in t) xs))) h.0.there ∙ membership_itself t k xs h.0.suits
coerced_itself columns (range k x y) h =
    let t : TypeTree = h.0.dtype in
    ap (λ o. by_column o (range k x y) (λ t. range_of k (position_in t x) (position_in t y))) h.0.there
    ∙ ap₂ (range_of k) (fitting_position t x h.0.suits.0) (fitting_position t y h.0.suits.1.0)
coerced_itself columns (prefix_test k p) h =
    let t : TypeTree = h.0.dtype in
    ap (λ o. by_column o (prefix_test k p) (λ t. prefix_test k (coerced_cell t p))) h.0.there ∙ ap (prefix_test k) (fitting_cell t p h.0.suits.1)
coerced_itself columns (pattern_test k case parts) h = refl
coerced_itself columns (both f g) h = ap₂ both (coerced_itself columns f (fits_left IsOfType columns (tests f) (tests g) h)) (coerced_itself columns g (fits_right IsOfType columns (tests f) (tests g) h))
coerced_itself columns (either f g) h = ap₂ either (coerced_itself columns f (fits_left IsOfType columns (tests f) (tests g) h)) (coerced_itself columns g (fits_right IsOfType columns (tests f) (tests g) h))
coerced_itself columns (negation f) h = ap negation (coerced_itself columns f h)

-- ---- what fits has its columns

suits_any : (d : Demand Cell) (t : TypeTree) → Suits IsOfType d t → Suits AnyLiteral d t
suits_any nothing t h = tt
suits_any (comparing xs) t h = each xs
  where
    each : (xs : List Cell) → AllByRecursion (AnyLiteral t) xs
    each [] = tt
    each (x ∷ xs) = (tt, each xs)
suits_any (beginning p) t h = (h.0, tt)
suits_any matching t h = h

fits_any : (columns : List TypeTree) (ts : List (Test Cell)) → AllFit IsOfType columns ts → AllFit AnyLiteral columns ts
fits_any columns [] h = tt
fits_any columns (test ∷ ts) h = (record { dtype = h.0.dtype; there = h.0.there; ordered = h.0.ordered; suits = suits_any test.demand h.0.dtype h.0.suits }, fits_any columns ts h.1)

pub compares_contents : NullableIsSame → FittingComparesContents
compares_contents nullable columns f row h r = sym (ap (λ g. truth g row) (coerced_itself columns f h)) ∙ coerced_truth nullable columns f row r (fits_any columns (tests f) h)

-- ---- when a comparison is Unknown

of_truth : (b : Bool) → truth_of b ≡ Unknown → ⊥
of_truth true e = cc
of_truth false e = cc

order_unknown : (op : CompareOperator) (o : Option Ordering) → (order_truth op o ≡ Unknown) ↔ (o ≡ None)
order_unknown op None = ((λ e. refl), (λ e. refl))
order_unknown op (Some o) = ((λ e. absurd (of_truth (holds op o) e)), (λ e. cc))

-- by whether the cell or the literal is null, and whether their types are the same
unknown_by : (op : CompareOperator) (a b c : Bool) (o : Option Ordering) → (a ≡ false → c ≡ true)
    → (cond (a || b) Unknown (order_truth op (cond c o None)) ≡ Unknown) ↔ ((a ≡ true) ⊎ ((b ≡ true) ⊎ (o ≡ None)))
unknown_by op true b c o s = ((λ e. inl refl), (λ e. refl))
unknown_by op false true c o s = ((λ e. inr (inl refl)), (λ e. refl))
unknown_by op false false true o s = ((λ e. inr (inr ((order_unknown op o).0 e))), back)
  where
    back : (false ≡ true) ⊎ ((false ≡ true) ⊎ (o ≡ None)) → order_truth op o ≡ Unknown
    back (inl e) = absurd (false≢true e)
    back (inr (inl e)) = absurd (false≢true e)
    back (inr (inr e)) = (order_unknown op o).1 e
unknown_by op false false false o s = absurd (false≢true (s refl))

cell_typed : (columns : List TypeTree) (row : List Cell) (k : ℕ) (t : TypeTree) → IsRowOf columns row → slice_get columns k ≡ Some t → is_null_cell (cell_at row k) ≡ false → IsCellOf t (cell_at row k)
cell_typed columns row k t r e n = by_cell (slice_get row k) refl n
  where
    by_cell : (o : Option Cell) → slice_get row k ≡ o → is_null_cell (cell_or_null o) ≡ false → IsCellOf t (cell_or_null o)
    by_cell None h f = absurd (false≢true (sym f))
    by_cell (Some c) h f = r k t c e h

pub unknown_without_order : UnknownWithoutOrder
unknown_without_order columns row k op x h r =
    unknown_by op (is_null_cell (cell_at row k)) (is_null_cell x) (same_type (cell_at row k).typed x.typed) (order (cell_at row k).content x.content)
    (λ n. (same_type-Decides (cell_at row k).typed x.typed).1 (sym (cell_typed columns row k h.0.dtype r h.0.there n).same ∙ h.0.suits.0))

-- ---- plain types

-- a value of the plain type
abbrev IsKind : TypeTree → Content → Type 0
IsKind (bool_type n) (truth_content b) = Unit {0}
IsKind (integer_type k n) (whole z) = Unit {0}
IsKind (utf8_type n) (text bs) = Unit {0}
IsKind (binary_type n) (string bs) = Unit {0}
IsKind (extension_type id metadata u) c = IsKind u c
IsKind _ _ = ⊥

bool_kind : (m n : Nullability) (c : Content) → HasContent (bool_type n) c → is_null_content c ≡ false → IsKind (bool_type m) c
bool_kind m n null h f = absurd (false≢true (sym f))
bool_kind m n (truth_content b) h f = tt
bool_kind m n _ h f = absurd h

integer_kind : (j k : PType) (m n : Nullability) (c : Content) → HasContent (integer_type k n) c → is_null_content c ≡ false → IsKind (integer_type j m) c
integer_kind j k m n null h f = absurd (false≢true (sym f))
integer_kind j k m n (whole z) h f = tt
integer_kind j k m n _ h f = absurd h

text_kind : (m n : Nullability) (c : Content) → HasContent (utf8_type n) c → is_null_content c ≡ false → IsKind (utf8_type m) c
text_kind m n null h f = absurd (false≢true (sym f))
text_kind m n (text bs) h f = tt
text_kind m n _ h f = absurd h

string_kind : (m n : Nullability) (c : Content) → HasContent (binary_type n) c → is_null_content c ≡ false → IsKind (binary_type m) c
string_kind m n null h f = absurd (false≢true (sym f))
string_kind m n (string bs) h f = tt
string_kind m n _ h f = absurd h

bool_in : (m : Nullability) (s : TypeTree) (c : Content) → Same (bool_type m) s → HasContent s c → is_null_content c ≡ false → IsKind (bool_type m) c
bool_in m (bool_type n) c e h f = bool_kind m n c h f
bool_in m _ c e h f = cc

integer_in : (j : PType) (m : Nullability) (s : TypeTree) (c : Content) → Same (integer_type j m) s → HasContent s c → is_null_content c ≡ false → IsKind (integer_type j m) c
integer_in j m (integer_type k n) c e h f = integer_kind j k m n c h f
integer_in j m _ c e h f = cc

text_in : (m : Nullability) (s : TypeTree) (c : Content) → Same (utf8_type m) s → HasContent s c → is_null_content c ≡ false → IsKind (utf8_type m) c
text_in m (utf8_type n) c e h f = text_kind m n c h f
text_in m _ c e h f = cc

string_in : (m : Nullability) (s : TypeTree) (c : Content) → Same (binary_type m) s → HasContent s c → is_null_content c ≡ false → IsKind (binary_type m) c
string_in m (binary_type n) c e h f = string_kind m n c h f
string_in m _ c e h f = cc

-- an extension has the contents of its storage
extension_in : (id metadata : List ℕ) (u s : TypeTree) → Same (extension_type id metadata u) s → (v : TypeTree) × Same u v × ((c : Content) → HasContent s c → HasContent v c)
extension_in id metadata u (extension_type other more v) e = let same : Same u v = cc in (v, same, λ c h. h)
extension_in id metadata u _ e = cc

kind_in : (t s : TypeTree) (c : Content) → IsPlainType t → Same t s → HasContent s c → is_null_content c ≡ false → IsKind t c
kind_in (bool_type m) s c p e h f = bool_in m s c e h f
kind_in (integer_type j m) s c p e h f = integer_in j m s c e h f
kind_in (utf8_type m) s c p e h f = text_in m s c e h f
kind_in (binary_type m) s c p e h f = string_in m s c e h f
kind_in (extension_type id metadata u) s c p e h f = let x = extension_in id metadata u s e in kind_in u x.0 c p x.1 (x.2 c h) f
kind_in _ s c p e h f = absurd p

bools_ordered : (m : Nullability) (c d : Content) → IsKind (bool_type m) c → IsKind (bool_type m) d → order c d ≢ None
bools_ordered m (truth_content a) (truth_content b) h k = λ e. cc
bools_ordered m (truth_content a) _ h k = absurd k
bools_ordered m _ d h k = absurd h

integers_ordered : (j : PType) (m : Nullability) (c d : Content) → IsKind (integer_type j m) c → IsKind (integer_type j m) d → order c d ≢ None
integers_ordered j m (whole a) (whole b) h k = λ e. cc
integers_ordered j m (whole a) _ h k = absurd k
integers_ordered j m _ d h k = absurd h

texts_ordered : (m : Nullability) (c d : Content) → IsKind (utf8_type m) c → IsKind (utf8_type m) d → order c d ≢ None
texts_ordered m (text a) (text b) h k = λ e. cc
texts_ordered m (text a) _ h k = absurd k
texts_ordered m _ d h k = absurd h

strings_ordered : (m : Nullability) (c d : Content) → IsKind (binary_type m) c → IsKind (binary_type m) d → order c d ≢ None
strings_ordered m (string a) (string b) h k = λ e. cc
strings_ordered m (string a) _ h k = absurd k
strings_ordered m _ d h k = absurd h

kinds_ordered : (t : TypeTree) (c d : Content) → IsPlainType t → IsKind t c → IsKind t d → order c d ≢ None
kinds_ordered (bool_type m) c d p h k = bools_ordered m c d h k
kinds_ordered (integer_type j m) c d p h k = integers_ordered j m c d h k
kinds_ordered (utf8_type m) c d p h k = texts_ordered m c d h k
kinds_ordered (binary_type m) c d p h k = strings_ordered m c d h k
kinds_ordered (extension_type id metadata u) c d p h k = kinds_ordered u c d p h k
kinds_ordered _ c d p h k = absurd p

-- nothing else is Unknown, if values have an order
nulls_alone : (a b : Bool) (U N : Type 0) → U ↔ ((a ≡ true) ⊎ ((b ≡ true) ⊎ N)) → (a ≡ false → b ≡ false → ¬ N) → U ↔ ((a ≡ true) ⊎ (b ≡ true))
nulls_alone true b U N u n = ((λ h. inl refl), (λ h. u.1 (inl refl)))
nulls_alone false true U N u n = ((λ h. inr refl), (λ h. u.1 (inr (inl refl))))
nulls_alone false false U N u n = ((λ h. never (u.0 h)), neither)
  where
    never : (false ≡ true) ⊎ ((false ≡ true) ⊎ N) → (false ≡ true) ⊎ (false ≡ true)
    never (inl e) = inl e
    never (inr (inl e)) = inl e
    never (inr (inr h)) = absurd (n refl refl h)

    neither : (false ≡ true) ⊎ (false ≡ true) → U
    neither (inl e) = absurd (false≢true e)
    neither (inr e) = absurd (false≢true e)

pub unknown_for_nulls : UnknownForNulls
unknown_for_nulls columns row k op x t h r e p v =
    let same : h.0.dtype ≡ t = same_Some h.0.dtype t (sym h.0.there ∙ e) in
    nulls_alone (is_null_cell (cell_at row k)) (is_null_cell x) (truth (comparison k op x) row ≡ Unknown) (order (cell_at row k).content x.content ≡ None) (unknown_without_order columns row k op x h r)
    (λ m n. kinds_ordered t (cell_at row k).content x.content p
    (kind_in t (cell_at row k).typed (cell_at row k).content p (cell_typed columns row k t r e m).same (cell_typed columns row k t r e m).has m)
    (kind_in t x.typed x.content p (subst (λ u. Same u x.typed) same h.0.suits.0) v n))
