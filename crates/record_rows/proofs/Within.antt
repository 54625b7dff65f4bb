-- Words whose cells are observed without a scalar of them.
use Rattle.std.proofs.Common.{◌≡◌, ◌≢◌, ◌<◌, ◌+◌, ◌^◌, ◌&&◌, ◌⊎◌, inl, inr, ℕ, ℤ, List, [], ◌∷◌, ◌++◌, Bool, true, false, ◌==◌, Option, Some, Ordering, refl, sym, ap, ◌∙◌, subst, length, arith, rules}
use Rattle.std.proofs.lemmas.Bool.{ne_eqb}
use Rattle.std.proofs.lemmas.Cmp.{int_ranked}
use Rattle.std.specs.Ordering.{int_cmp}
use Rattle.std.specs.declared.cmp.Ordering.TheVariants.{Equal, Greater, Less}
use Rattle.csv_records.specs.Rows.{Field}
use Rattle.logical_scalars.specs.Stored.{raw_storage}
use Rattle.logical_types.specs.Extensions.{storage_type_of}
use Rattle.logical_types.specs.declared.extensions.StorageType.{StorageType}
use Rattle.logical_types.specs.declared.extensions.StorageType.TheVariants.{Bytes, I32, I64}
use Rattle.record_rows.specs.Cells.{IsContent, Means, column_type}
use Rattle.record_rows.specs.Readings.{Reading, is_null_field, is_null_word}
use Rattle.record_rows.specs.Rows.{IsTaken}
use Rattle.record_rows.specs.declared.schema.ColumnType.{ColumnType}
use Rattle.record_rows.specs.declared.schema.Kind.{Kind}
use Rattle.record_rows.specs.declared.schema.Kind.TheVariants as kinds
use Rattle.vortex_dtype.specs.TypeTree.{Same, TypeTree, utf8_type}
use Rattle.vortex_dtype.specs.declared.nullability.Nullability.{Nullability}
use Rattle.vortex_dtype.specs.declared.nullability.Nullability.TheVariants.{NonNullable, Nullable}
use Rattle.vortex_pvalue.specs.Whole.{whole_of}
use Rattle.vortex_pvalue.specs.declared.pvalues.PValue.{PValue}
use Rattle.vortex_cells.specs.Cells.{Cell, cell_of, cell_order, is_null_cell, is_null_content, order_from_above}
use Rattle.vortex_statistics.specs.Observing.{bound_after, bound_at, bound_with, is_below_some, observed}
use Rattle.vortex_statistics.specs.Statistics.{AreComplete, AreRight, Known, KnownBound, known_bound, may_be_value}
use Rattle.vortex_statistics.specs.declared.column_statistics.Bound.{Bound}
use Rattle.vortex_statistics.proofs.ObserveLaws.{observed_complete, observed_right}
use Rattle.vortex_value.specs.Equality.{same_type}
use Rattle.vortex_value.specs.Lemmas.EqualityLaws.{same_type-Decides}
use Rattle.vortex_value.specs.Order.{IsReversed, IsTransitive, order}
use Rattle.vortex_value.specs.Validity.{Valid}
use Rattle.vortex_value.specs.Values.Content.{Content, content, text, whole}
use Rattle.vortex_value.specs.Values.Scalars.{IsMadeOf, IsValid, scalar_content, scalar_raw, scalar_type}
use Rattle.vortex_value.specs.declared.scalars.Scalar.{Scalar}
use Rattle.vortex_value.specs.declared.values.ScalarValue.{the_lemmas as value_lemmas}
use Rattle.vortex_value.specs.declared.values.ScalarValue.TheVariants as values
use Rattle.record_rows.specs.Observed.{IsTakenAs, IsTextInside, Keeps, ObservesCell, ObservesField, ObservesWord, RaisesTo, TakesCell, TakesWord, cell_in, number_cell}

-- ---- orders

same_true : (s t : TypeTree) → Same s t → same_type s t ≡ true
same_true s t h = (same_type-Decides s t).1 h

number_order : (t : TypeTree) (a z : ℤ) → cell_order (record { typed = t; content = whole a }) (record { typed = t; content = whole z }) ≡ Some (int_cmp a z)
number_order t a z = rw (same_true t t refl) refl

stays : (cmp : Cell → Cell → Option Ordering) (b : KnownBound) (x : Cell) → Keeps cmp b x → bound_after cmp (Some b) x ≡ Some b
stays cmp b x (inl less) = rw less refl
stays cmp b x (inr same) = rw same.0 (ap (λ (e : Bool). let k : KnownBound = record { value = b.value; is_exact = e } in Some k) (sym same.1))

-- the order says that the bound is kept
abbrev IsKeptBy : Option Ordering → Bool → Type 0
IsKeptBy o exact = (o ≡ Some Less) ⊎ ((o ≡ Some Equal) × (exact ≡ true))

keeps_by : (cmp : Cell → Cell → Option Ordering) (b : KnownBound) (x : Cell) (o : Option Ordering) → cmp b.value x ≡ o → IsKeptBy o b.is_exact → Keeps cmp b x
keeps_by cmp b x o e (inl less) = inl (e ∙ less)
keeps_by cmp b x o e (inr same) = inr (e ∙ same.0, same.1)

-- ---- the upper bound after a number

from_above : (t : TypeTree) (a v : PValue) → order_from_above (number_cell t a) (number_cell t v) ≡ Some (int_cmp (whole_of v) (whole_of a))
from_above t a v = number_order t (whole_of v) (whole_of a)

at_number : (t : TypeTree) (a v : PValue) (old : KnownBound) (o : Ordering) → old.value ≡ number_cell t a → int_cmp (whole_of v) (whole_of a) ≡ o → bound_after order_from_above (Some old) (number_cell t v) ≡ bound_with (Some o) old (number_cell t v)
at_number t a v old o is order_is =
    let x : Cell = number_cell t v in
    ap (λ (r : Option Ordering). bound_with r old x) (ap (λ (c : Cell). order_from_above c x) is ∙ from_above t a v ∙ ap (λ (r : Ordering). Some r) order_is)

raised_by : (t : TypeTree) (a v : PValue) (o : Ordering) (old new : KnownBound) → old.value ≡ number_cell t a → int_cmp (whole_of v) (whole_of a) ≡ o → o ≢ Less → new ≡ record { value = number_cell t v; is_exact = true } → bound_after order_from_above (Some old) (number_cell t v) ≡ Some new
raised_by t a v Less old new is order_is above same = absurd (above refl)
raised_by t a v Equal old new is order_is above same =
    let z : whole_of v ≡ whole_of a = int_ranked (whole_of v) (whole_of a) Equal (sym order_is) in
    let cell : old.value ≡ number_cell t v = is ∙ ap (λ (w : ℤ). let c : Cell = record { typed = t; content = whole w } in c) (sym z) in
    at_number t a v old Equal is order_is ∙ ap (λ (c : Cell). let b : KnownBound = record { value = c; is_exact = true } in Some b) cell ∙ ap (λ (b : KnownBound). Some b) (sym same)
raised_by t a v Greater old new is order_is above same =
    let x : Cell = number_cell t v in
    let itself : bound_at x ≡ Some (record { value = x; is_exact = true }) = rw (number_order t (whole_of v) (whole_of v)) refl in
    at_number t a v old Greater is order_is ∙ itself ∙ ap (λ (b : KnownBound). Some b) (sym same)

-- the bound is this number
abbrev pub IsNumberBound : PValue → KnownBound → Type 0
IsNumberBound a b = b.value ≡ number_cell b.value.typed a

pub raised : (a v : PValue) (o : Option Ordering) (old new : KnownBound) → IsNumberBound a old → o ≡ Some (int_cmp (whole_of v) (whole_of a)) → o ≢ Some Less → new ≡ record { value = number_cell old.value.typed v; is_exact = true } → RaisesTo v old new
raised a v o old new is order_is past same =
    raised_by old.value.typed a v (int_cmp (whole_of v) (whole_of a)) old new is refl (λ less. past (order_is ∙ ap (λ (r : Ordering). Some r) less)) same

pub not_raised : (a v : PValue) (o : Option Ordering) (old new : KnownBound) → IsNumberBound a old → o ≡ Some (int_cmp (whole_of v) (whole_of a)) → IsKeptBy o old.is_exact → new ≡ record { value = number_cell old.value.typed a; is_exact = old.is_exact } → RaisesTo v old new
not_raised a v o old new is order_is kept same =
    let x : Cell = number_cell old.value.typed v in
    let compared : order_from_above old.value x ≡ o = ap (λ (c : Cell). order_from_above c x) is ∙ from_above old.value.typed a v ∙ sym order_is in
    let unchanged : old ≡ new = ap (λ (c : Cell). let b : KnownBound = record { value = c; is_exact = old.is_exact } in b) is ∙ sym same in
    stays order_from_above old x (keeps_by order_from_above old x o compared kept) ∙ ap (λ (b : KnownBound). Some b) unchanged

pub number_scalar : (v : PValue) (x : Scalar) → x.value ≡ Some (values.Primitive v) → scalar_content x ≡ whole (whole_of v)
number_scalar v x is = rw is (search (rules, value_lemmas))

pub is_number : (v : PValue) (b : Bound) → scalar_content b.value ≡ whole (whole_of v) → IsNumberBound v (known_bound b)
is_number v b held = ap (λ (c : Content). let x : Cell = record { typed = scalar_type b.value; content = c } in x) held

-- ---- one cell more

not_below : (s : Known) (b : KnownBound) (x : Cell) → s.lower ≡ Some b → Keeps cell_order b x → is_below_some s x ≡ false
not_below s b x is (inl less) = rw (is, less) (never b.is_exact)
  where
    never : (e : Bool) → (e && false) ≡ false
    never true = refl
    never false = refl
not_below s b x is (inr same) = rw (is, same.0, same.1) refl

-- the statistics count one more, and this is the upper bound
abbrev pub with_upper : Known → KnownBound → Known
with_upper s b = record { row_count = s.row_count + 1; null_count = s.null_count; lower = s.lower; upper = Some b }

taken : (s : Known) (l u v : KnownBound) (x : Cell) → s.lower ≡ Some l → s.upper ≡ Some u → is_null_cell x ≡ false → may_be_value s ≡ true → TakesCell l u v x → observed s x ≡ with_upper s v
taken s l u v x lower_is upper_is there valued h =
    let low : bound_after cell_order s.lower x ≡ s.lower = rw lower_is (stays cell_order l x h.0) in
    let high : bound_after order_from_above s.upper x ≡ Some v = rw upper_is h.1 in
    rw (there, valued, not_below s l x lower_is h.0, low, high) refl

counted : IsReversed order → IsTransitive order → (s t : Known) (l u v : KnownBound) (x : Cell) → s.row_count + 1 < 2 ^ 64 → s.lower ≡ Some l → s.upper ≡ Some u → is_null_cell x ≡ false → may_be_value s ≡ true → TakesCell l u v x → t ≡ with_upper s v → ObservesCell s x t
counted reversed transitive s t l u v x fits lower_is upper_is there valued h is =
    let same : observed s x ≡ t = taken s l u v x lower_is upper_is there valued h ∙ sym is in
    record {
      is = sym same;
      fits = fits;
      right = λ cells right. subst (λ (k : Known). AreRight k (cells ++ x ∷ [])) same (observed_right reversed transitive s cells x right);
      complete = λ cells complete. subst (λ (k : Known). AreComplete k (cells ++ x ∷ [])) same (observed_complete reversed transitive s cells x fits complete);
    }

-- ---- a word that is observed in place

some_field : (reading : Reading) (n : Nullability) (word : List ℕ) (q : Bool) → 0 < length word → is_null_word reading.nulls word ≡ false → is_null_field reading n (record { text = word; is_quoted = q }) ≡ false
some_field reading Nullable word q h none = rw (ne_eqb (length word) 0 (λ e. omega (arith, h, e)), none) refl
some_field reading NonNullable word q h none = refl

stored_no_null : (k : StorageType) (z : ℤ) → is_null_content (content (raw_storage k z)) ≡ false
stored_no_null I32 z = refl
stored_no_null I64 z = refl
stored_no_null Bytes z = refl

no_null : (kind : Kind) (word : List ℕ) (c : Content) → Means kind word c → is_null_content c ≡ false
no_null (kinds.Integer k) word c h = ap is_null_content h.2
no_null kinds.Utf8 word c h = ap is_null_content h.1
no_null kinds.Binary word c h = ap is_null_content h.2
no_null kinds.Bytes word c h = ap is_null_content h
no_null (kinds.Logical l) word c h = ap is_null_content h.2 ∙ stored_no_null (storage_type_of l) h.0

pub word_observed : IsReversed order → IsTransitive order → (reading : Reading) (column : ColumnType) (word : List ℕ) (s t : Known) (l u v : KnownBound) → 0 < length word → is_null_word reading.nulls word ≡ false → s.row_count + 1 < 2 ^ 64 → s.lower ≡ Some l → s.upper ≡ Some u → may_be_value s ≡ true → TakesWord column word l u v → t ≡ with_upper s v → ObservesWord reading column word s t
word_observed reversed transitive reading column word s t l u v some none fits lower_is upper_is valued h is = λ q.
    let content : IsContent reading column (record { text = word; is_quoted = q }) h.0 = rw (some_field reading column.nullability word q some none) h.1 in
    (h.0, content, counted reversed transitive s t l u v (cell_in column h.0) fits lower_is upper_is (no_null column.kind word h.0 h.1) valued h.2 is)

-- the number keeps the lower bound, and raises the upper one, which are of the column's type
pub number_taken : (column : ColumnType) (word : List ℕ) (a v : PValue) (o : Option Ordering) (lower old new : KnownBound) → IsNumberBound a lower → lower.value.typed ≡ column_type column → old.value.typed ≡ column_type column → Means column.kind word (whole (whole_of v)) → o ≡ Some (int_cmp (whole_of a) (whole_of v)) → IsKeptBy o lower.is_exact → RaisesTo v old new → TakesWord column word lower old new
number_taken column word a v o lower old new is low high means order_is kept raises =
    let x : Cell = number_cell (column_type column) v in
    let at : lower.value ≡ number_cell (column_type column) a = is ∙ ap (λ (t : TypeTree). number_cell t a) low in
    let same : cell_order lower.value x ≡ o = ap (λ (c : Cell). cell_order c x) at ∙ number_order (column_type column) (whole_of a) (whole_of v) ∙ sym order_is in
    (whole (whole_of v), means, (keeps_by cell_order lower x o same kept, subst (λ (t : TypeTree). bound_after order_from_above (Some old) (number_cell t v) ≡ Some new) high raises))

pub text_taken : (column : ColumnType) (word : List ℕ) (l u : KnownBound) → column.kind ≡ kinds.Utf8 → IsTextInside word l u → TakesWord column word l u u
text_taken column word l u kind h =
    let x : Cell = record { typed = utf8_type column.nullability; content = text word } in
    (text word, rw kind (h.0, refl), rw kind ((h.1 column.nullability).0, stays order_from_above u x (h.1 column.nullability).1))

-- ---- a field of which a scalar is made

stands_as : (l : Reading) (column : ColumnType) (f : Field) (x : Scalar) (b : Bool) → IsTaken l column f x b → IsTakenAs l column f (scalar_content x) b × (scalar_type x ≡ column_type column)
stands_as l column f x false h = (h.content, h.typed)
stands_as l column f x true h = ((h.asked, h.none, h.takes, h.content), h.typed)

pub taken_valid : (l : Reading) (column : ColumnType) (f : Field) (x : Scalar) (b : Bool) → IsTaken l column f x b → IsValid x
taken_valid l column f x false h = h.valid
taken_valid l column f x true h = h.valid

pub cell_observed : (l : Reading) (column : ColumnType) (f : Field) (x : Scalar) (b : Bool) (s t : Known) → IsTaken l column f x b → ObservesCell s (cell_of x) t → ObservesField l column f s t b
cell_observed l column f x b s t h observes =
    let p = stands_as l column f x b h in
    (scalar_content x, p.0, subst (λ (k : TypeTree). ObservesCell s (record { typed = k; content = scalar_content x }) t) p.1 observes)

pub some_length : (xs : List ℕ) (b : Bool) → b ≡ (length xs == 0) → b ≡ false → 0 < length xs
some_length [] b e none = absurd cc
some_length (x ∷ xs) b e none = omega arith
