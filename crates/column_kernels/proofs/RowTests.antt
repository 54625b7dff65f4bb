-- What tests say of the contents of a column's rows, by its cells.
use Rattle.std.proofs.Common.{◌≡◌, ◌↔◌, ◌∙◌, ◌&&◌, ◌||◌, ◌+◌, ◌<◌, ◌≤◌, All, Bool, IfSome, IsTrue, IsUtf8, List, None, Option, Ordering, Some, ap, arith, false, if◌then◌else◌, length, map, nat_eq, nat_le, not, refl, replicate, slice_get, slice_index_or, subst, sym, true, ℕ, ℤ}
use Rattle.std.proofs.lemmas.Bool.Decides.{same_from_decides}
use Rattle.std.proofs.lemmas.List.{get_or-map, get_or-replicate, length-map, length-replicate}
use Rattle.std.proofs.lemmas.List.FromFn.{get_or-map-range_with_len, length-map-range_with_len}
use Rattle.std.proofs.lemmas.Option.{get_or_from_slice_get, slice_get_within}
use Rattle.std.proofs.lemmas.Str.{is_utf8-from_IsUtf8}
use Rattle.std.specs.Cmp.Lexicographic.{slice_cmp}
use Rattle.std.specs.List.{starts_with}
use Rattle.std.specs.Ordering.{int_cmp, nat_cmp}
use Rattle.std.specs.Str.{chars}
use Rattle.arrow_columns.specs.Bitmaps.{is_valid}
use Rattle.arrow_columns.specs.Cells.{cell_at, cells_from}
use Rattle.arrow_columns.specs.declared.columns.Column.{Column}
use Rattle.arrow_columns.specs.declared.formats.Format.{Format}
use Rattle.arrow_columns.specs.declared.formats.Format.TheVariants as formats
use Rattle.arrow_columns.specs.declared.kinds.ItemKind.{ItemKind}
use Rattle.arrow_columns.specs.declared.tested_rows.Rows.{Rows}
use Rattle.arrow_columns.specs.declared.tested_rows.Rows.TheVariants.{Nulls}
use Rattle.column_cells.specs.Contents.{content_or_null, contents_of_rows, stored_content}
use Rattle.column_cells.specs.Types.{type_of_format, type_of_rows}
use Rattle.like_patterns.specs.Patterns.{Part, is_like}
use Rattle.like_patterns.specs.declared.case.Case.{Case}
use Rattle.logical_types.specs.Storing.{decimal_bytes}
use Rattle.vortex_cells.specs.Cells.{Cell, is_null_content}
use Rattle.vortex_dtype.specs.Parts.{is_utf8_type}
use Rattle.vortex_dtype.specs.TypeTree.{Same, TypeTree}
use Rattle.vortex_filter.specs.Formula.{compare_truth, order_truth}
use Rattle.vortex_filter.specs.Operators.{holds}
use Rattle.vortex_filter.specs.PatternTests.{are_like, match_truth, pattern_truth}
use Rattle.vortex_filter.specs.Prefixes.{begins, begins_truth, prefix_truth}
use Rattle.vortex_filter.specs.Truths.{truth_of}
use Rattle.vortex_filter.specs.declared.operator.CompareOperator.{CompareOperator}
use Rattle.vortex_filter.specs.declared.truth.Truth.{Truth}
use Rattle.vortex_filter.specs.declared.truth.Truth.TheVariants.{Unknown}
use Rattle.vortex_value.specs.Equality.{same_type}
use Rattle.vortex_value.specs.Lemmas.EqualityLaws.{same_type-Decides}
use Rattle.vortex_value.specs.Order.{order, truth_cmp}
use Rattle.vortex_value.specs.Values.Content.{Content, null, sequence, string, tagged, text, truth, typed, whole}
use Rattle.column_kernels.specs.Rows.{bool_in, bytes_in, cell_of_row, content_compared, content_of_row, number_in, option_of, stores_bytes, text_in}
use Rattle.column_kernels.specs.Truths.{compared, tested}

-- the content of a row is that of its cell
content-at : {X : Type 0} (of_value : X → Content) (validity : List ℕ) (value : ℕ → X) (offset count row : ℕ) → row < count
    → slice_index_or (map (content_or_null of_value) (cells_from validity value offset count)) row null ≡ content_or_null of_value (cell_at validity value (offset + row))
content-at of_value validity value offset count row below =
    get_or-map (content_or_null of_value) (cells_from validity value offset count) row None null (omega (arith, below, length-map-range_with_len (cell_at validity value) offset count))
    ∙ ap (content_or_null of_value) (get_or-map-range_with_len (cell_at validity value) offset count row (offset + row) None below refl)

pub option-of-bool : (b : Bool) → option_of (truth_of b) ≡ Some b
option-of-bool true = refl
option-of-bool false = refl

-- what a test says of each content, a null included, it says of each row
pub row-told : {X : Type 0} (says : Content → Option Bool) (of_value : X → Content) (told : Option X → Option Bool) (validity : List ℕ) (value : ℕ → X) (offset count row : ℕ) (answer : Option Bool) → row < count
    → ((cell : Option X) → told cell ≡ says (content_or_null of_value cell)) → answer ≡ told (cell_at validity value (offset + row))
    → answer ≡ says (slice_index_or (map (content_or_null of_value) (cells_from validity value offset count)) row null)
row-told says of_value told validity value offset count row answer below each is =
    is ∙ each (cell_at validity value (offset + row)) ∙ ap says (sym (content-at of_value validity value offset count row below))

-- ---- literals

number-is : (d : Content) (w : ℤ) → Some w ≡ number_in d → d ≡ whole w
number-is null w e = cc
number-is (truth b) w e = cc
number-is (whole z) w e = cc
number-is (text bs) w e = cc
number-is (string bs) w e = cc
number-is (sequence cs) w e = cc
number-is (tagged i c) w e = cc
number-is (typed t c) w e = cc

bool-is : (d : Content) (w : Bool) → Some w ≡ bool_in d → d ≡ truth w
bool-is null w e = cc
bool-is (truth b) w e = cc
bool-is (whole z) w e = cc
bool-is (text bs) w e = cc
bool-is (string bs) w e = cc
bool-is (sequence cs) w e = cc
bool-is (tagged i c) w e = cc
bool-is (typed t c) w e = cc

text-is : (d : Content) (w : List ℕ) → Some w ≡ text_in d → d ≡ text w
text-is null w e = cc
text-is (truth b) w e = cc
text-is (whole z) w e = cc
text-is (text bs) w e = cc
text-is (string bs) w e = cc
text-is (sequence cs) w e = cc
text-is (tagged i c) w e = cc
text-is (typed t c) w e = cc

bytes-are : (d : Content) (w : List ℕ) → Some w ≡ bytes_in d → d ≡ string w
bytes-are null w e = cc
bytes-are (truth b) w e = cc
bytes-are (whole z) w e = cc
bytes-are (text bs) w e = cc
bytes-are (string bs) w e = cc
bytes-are (sequence cs) w e = cc
bytes-are (tagged i c) w e = cc
bytes-are (typed t c) w e = cc

-- ---- comparisons

-- with contents that have an order with the literal's
with-order : {X : Type 0} (op : CompareOperator) (of_value : X → Content) (stands : X → Ordering) (d : Content) → is_null_content d ≡ false → ((x : X) → is_null_content (of_value x) ≡ false) → ((x : X) → order (of_value x) d ≡ Some (stands x))
    → (cell : Option X) → compared op stands cell ≡ option_of (content_compared op (content_or_null of_value cell) d)
with-order op of_value stands d known values orders None = refl
with-order op of_value stands d known values orders (Some x) =
    sym (ap option_of (neither (is_null_content (of_value x)) (is_null_content d) (order_truth op (order (of_value x) d)) (values x) known ∙ ap (order_truth op) (orders x)) ∙ option-of-bool (holds op (stands x)))
  where
    neither : (a b : Bool) (u : Truth) → a ≡ false → b ≡ false → (if a || b then Unknown else u) ≡ u
    neither true b u p q = cc
    neither false true u p q = cc
    neither false false u p q = refl

-- with contents that have none
without-order : {X : Type 0} (op : CompareOperator) (of_value : X → Content) (d : Content) → ((x : X) → option_of (content_compared op (of_value x) d) ≡ None) → (cell : Option X) → None ≡ option_of (content_compared op (content_or_null of_value cell) d)
without-order op of_value d none None = refl
without-order op of_value d none (Some x) = sym (none x)

module _ (op : CompareOperator) where
  pub number-compared : (of_value : ℤ → Content) (d : Content) (w : ℤ) → ((z : ℤ) → of_value z ≡ whole z) → Some w ≡ number_in d → (cell : Option ℤ) → compared op (λ z. int_cmp z w) cell ≡ option_of (content_compared op (content_or_null of_value cell) d)
  number-compared of_value d w stores h =
      let e = number-is d w h in
      with-order op of_value (λ z. int_cmp z w) d (ap is_null_content e) (λ z. ap is_null_content (stores z)) (λ z. ap (order (of_value z)) e ∙ ap (λ c. order c (whole w)) (stores z))

  no-number : (z : ℤ) (d : Content) → None ≡ number_in d → option_of (content_compared op (whole z) d) ≡ None
  no-number z null h = refl
  no-number z (truth b) h = refl
  no-number z (whole w) h = cc
  no-number z (text bs) h = refl
  no-number z (string bs) h = refl
  no-number z (sequence cs) h = refl
  no-number z (tagged i c) h = refl
  no-number z (typed t c) h = refl

  pub number-unordered : (of_value : ℤ → Content) (d : Content) → ((z : ℤ) → of_value z ≡ whole z) → None ≡ number_in d → (cell : Option ℤ) → None ≡ option_of (content_compared op (content_or_null of_value cell) d)
  number-unordered of_value d stores h = without-order op of_value d (λ z. ap (λ c. option_of (content_compared op c d)) (stores z) ∙ no-number z d h)

  pub boolean-compared : (d : Content) (w : Bool) → Some w ≡ bool_in d → (cell : Option Bool) → compared op (λ b. truth_cmp b w) cell ≡ option_of (content_compared op (content_or_null truth cell) d)
  boolean-compared d w h =
      let e = bool-is d w h in
      with-order op truth (λ b. truth_cmp b w) d (ap is_null_content e) (λ b. refl) (λ b. ap (order (truth b)) e)

  no-truth : (b : Bool) (d : Content) → None ≡ bool_in d → option_of (content_compared op (truth b) d) ≡ None
  no-truth b null h = refl
  no-truth b (truth w) h = cc
  no-truth b (whole w) h = refl
  no-truth b (text bs) h = refl
  no-truth b (string bs) h = refl
  no-truth b (sequence cs) h = refl
  no-truth b (tagged i c) h = refl
  no-truth b (typed t c) h = refl

  pub boolean-unordered : (d : Content) → None ≡ bool_in d → (cell : Option Bool) → None ≡ option_of (content_compared op (content_or_null truth cell) d)
  boolean-unordered d h = without-order op truth d (λ b. no-truth b d h)

  pub text-compared : (d : Content) (w : List ℕ) → Some w ≡ text_in d → (cell : Option (List ℕ)) → compared op (λ bytes. slice_cmp nat_cmp bytes w) cell ≡ option_of (content_compared op (content_or_null text cell) d)
  text-compared d w h =
      let e = text-is d w h in
      with-order op text (λ bytes. slice_cmp nat_cmp bytes w) d (ap is_null_content e) (λ bytes. refl) (λ bytes. ap (order (text bytes)) e)

  no-text : (bytes : List ℕ) (d : Content) → None ≡ text_in d → option_of (content_compared op (text bytes) d) ≡ None
  no-text bytes null h = refl
  no-text bytes (truth w) h = refl
  no-text bytes (whole w) h = refl
  no-text bytes (text w) h = cc
  no-text bytes (string bs) h = refl
  no-text bytes (sequence cs) h = refl
  no-text bytes (tagged i c) h = refl
  no-text bytes (typed t c) h = refl

  pub text-unordered : (d : Content) → None ≡ text_in d → (cell : Option (List ℕ)) → None ≡ option_of (content_compared op (content_or_null text cell) d)
  text-unordered d h = without-order op text d (λ bytes. no-text bytes d h)

  -- bytes, of a column of bytes or of decimals
  pub bytes-compared : {X : Type 0} (of_value : X → Content) (bytes_of : X → List ℕ) (d : Content) (w : List ℕ) → ((x : X) → of_value x ≡ string (bytes_of x)) → Some w ≡ bytes_in d
      → (cell : Option X) → compared op (λ x. slice_cmp nat_cmp (bytes_of x) w) cell ≡ option_of (content_compared op (content_or_null of_value cell) d)
  bytes-compared of_value bytes_of d w stores h =
      let e = bytes-are d w h in
      with-order op of_value (λ x. slice_cmp nat_cmp (bytes_of x) w) d (ap is_null_content e) (λ x. ap is_null_content (stores x)) (λ x. ap (order (of_value x)) e ∙ ap (λ c. order c (string w)) (stores x))

  no-bytes : (bytes : List ℕ) (d : Content) → None ≡ bytes_in d → option_of (content_compared op (string bytes) d) ≡ None
  no-bytes bytes null h = refl
  no-bytes bytes (truth w) h = refl
  no-bytes bytes (whole w) h = refl
  no-bytes bytes (text w) h = refl
  no-bytes bytes (string w) h = cc
  no-bytes bytes (sequence cs) h = refl
  no-bytes bytes (tagged i c) h = refl
  no-bytes bytes (typed t c) h = refl

  pub bytes-unordered : {X : Type 0} (of_value : X → Content) (bytes_of : X → List ℕ) (d : Content) → ((x : X) → of_value x ≡ string (bytes_of x)) → None ≡ bytes_in d → (cell : Option X) → None ≡ option_of (content_compared op (content_or_null of_value cell) d)
  bytes-unordered of_value bytes_of d stores h = without-order op of_value d (λ x. ap (λ c. option_of (content_compared op c d)) (stores x) ∙ no-bytes (bytes_of x) d h)

-- ---- prefixes

pub text-begins : (d : Content) (p : List ℕ) → Some p ≡ text_in d → (cell : Option (List ℕ)) → tested (λ bytes. starts_with nat_eq bytes p) cell ≡ option_of (begins_truth (begins (content_or_null text cell) d))
text-begins d p h None = let e = text-is d p h in sym (ap (λ c. option_of (begins_truth (begins null c))) e)
text-begins d p h (Some bytes) = let e = text-is d p h in sym (ap (λ c. option_of (begins_truth (begins (text bytes) c))) e ∙ option-of-bool (starts_with nat_eq bytes p))

pub bytes-begin : {X : Type 0} (of_value : X → Content) (bytes_of : X → List ℕ) (d : Content) (p : List ℕ) → ((x : X) → of_value x ≡ string (bytes_of x)) → Some p ≡ bytes_in d
    → (cell : Option X) → tested (λ x. starts_with nat_eq (bytes_of x) p) cell ≡ option_of (begins_truth (begins (content_or_null of_value cell) d))
bytes-begin of_value bytes_of d p stores h None = let e = bytes-are d p h in sym (ap (λ c. option_of (begins_truth (begins null c))) e)
bytes-begin of_value bytes_of d p stores h (Some x) =
    let e = bytes-are d p h in
    sym (ap (λ c. option_of (begins_truth (begins (of_value x) c))) e ∙ ap (λ c. option_of (begins_truth (begins c (string p)))) (stores x) ∙ option-of-bool (starts_with nat_eq (bytes_of x) p))

-- of contents that do not begin with anything
none-begins : {X : Type 0} (of_value : X → Content) (d : Content) → ((x : X) → begins (of_value x) d ≡ None) → begins null d ≡ None → (cell : Option X) → None ≡ option_of (begins_truth (begins (content_or_null of_value cell) d))
none-begins of_value d none nulls None = sym (ap (λ b. option_of (begins_truth b)) nulls)
none-begins of_value d none nulls (Some x) = sym (ap (λ b. option_of (begins_truth b)) (none x))

null-begins : (d : Content) → begins null d ≡ None
null-begins null = refl
null-begins (truth b) = refl
null-begins (whole z) = refl
null-begins (text bs) = refl
null-begins (string bs) = refl
null-begins (sequence cs) = refl
null-begins (tagged i c) = refl
null-begins (typed t c) = refl

no-text-begins : (bytes : List ℕ) (d : Content) → None ≡ text_in d → begins (text bytes) d ≡ None
no-text-begins bytes null h = refl
no-text-begins bytes (truth w) h = refl
no-text-begins bytes (whole w) h = refl
no-text-begins bytes (text w) h = cc
no-text-begins bytes (string bs) h = refl
no-text-begins bytes (sequence cs) h = refl
no-text-begins bytes (tagged i c) h = refl
no-text-begins bytes (typed t c) h = refl

pub text-unprefixed : (d : Content) → None ≡ text_in d → (cell : Option (List ℕ)) → None ≡ option_of (begins_truth (begins (content_or_null text cell) d))
text-unprefixed d h = none-begins text d (λ bytes. no-text-begins bytes d h) (null-begins d)

no-bytes-begin : (bytes : List ℕ) (d : Content) → None ≡ bytes_in d → begins (string bytes) d ≡ None
no-bytes-begin bytes null h = refl
no-bytes-begin bytes (truth w) h = refl
no-bytes-begin bytes (whole w) h = refl
no-bytes-begin bytes (text w) h = refl
no-bytes-begin bytes (string w) h = cc
no-bytes-begin bytes (sequence cs) h = refl
no-bytes-begin bytes (tagged i c) h = refl
no-bytes-begin bytes (typed t c) h = refl

pub bytes-unprefixed : {X : Type 0} (of_value : X → Content) (bytes_of : X → List ℕ) (d : Content) → ((x : X) → of_value x ≡ string (bytes_of x)) → None ≡ bytes_in d → (cell : Option X) → None ≡ option_of (begins_truth (begins (content_or_null of_value cell) d))
bytes-unprefixed of_value bytes_of d stores h = none-begins of_value d (λ x. ap (λ c. begins c d) (stores x) ∙ no-bytes-begin (bytes_of x) d h) (null-begins d)

-- numbers and booleans begin with nothing
number-begins : (z : ℤ) (d : Content) → begins (whole z) d ≡ None
number-begins z null = refl
number-begins z (truth b) = refl
number-begins z (whole w) = refl
number-begins z (text bs) = refl
number-begins z (string bs) = refl
number-begins z (sequence cs) = refl
number-begins z (tagged i c) = refl
number-begins z (typed t c) = refl

pub number-unprefixed : (of_value : ℤ → Content) (d : Content) → ((z : ℤ) → of_value z ≡ whole z) → (cell : Option ℤ) → None ≡ option_of (begins_truth (begins (content_or_null of_value cell) d))
number-unprefixed of_value d stores = none-begins of_value d (λ z. ap (λ c. begins c d) (stores z) ∙ number-begins z d) (null-begins d)

boolean-begins : (b : Bool) (d : Content) → begins (truth b) d ≡ None
boolean-begins b null = refl
boolean-begins b (truth w) = refl
boolean-begins b (whole w) = refl
boolean-begins b (text bs) = refl
boolean-begins b (string bs) = refl
boolean-begins b (sequence cs) = refl
boolean-begins b (tagged i c) = refl
boolean-begins b (typed t c) = refl

pub boolean-unprefixed : (d : Content) → (cell : Option Bool) → None ≡ option_of (begins_truth (begins (content_or_null truth cell) d))
boolean-unprefixed d = none-begins truth d (λ b. boolean-begins b d) (null-begins d)

-- ---- patterns

pub text-matches : (case : Case) (parts : List Part) (cell : Option (List ℕ)) → tested (are_like case parts) cell ≡ option_of (match_truth case parts (content_or_null text cell))
text-matches case parts None = refl
text-matches case parts (Some bytes) = sym (option-of-bool (are_like case parts bytes))

-- what is said of the cells of a column that is known is said of the column
pub matches-shown : (case : Case) (parts : List Part) (rows known : Rows) (i : ℕ) (told : Option Bool) → rows ≡ known → told ≡ option_of (pattern_truth case parts (cell_of_row known i)) → told ≡ option_of (pattern_truth case parts (cell_of_row rows i))
matches-shown case parts rows known i told e is = is ∙ ap (λ r. option_of (pattern_truth case parts (cell_of_row r i))) (sym e)

-- of a column that has no strings
pub no-strings : (case : Case) (parts : List Part) (rows known : Rows) (i : ℕ) (told : Option Bool) → rows ≡ known → is_utf8_type (type_of_rows known) ≡ false → told ≡ None → told ≡ option_of (pattern_truth case parts (cell_of_row rows i))
no-strings case parts rows known i told e other is =
    let no : false ≡ is_utf8_type (type_of_rows rows) = sym (ap (λ r. is_utf8_type (type_of_rows r)) e ∙ other) in
    is ∙ ap (λ b. option_of (if b then match_truth case parts (content_of_row rows i) else Unknown)) no

pub logical-no-strings : (format : Format) → is_utf8_type (type_of_format format) ≡ false
logical-no-strings formats.Float32 = refl
logical-no-strings formats.Float64 = refl
logical-no-strings formats.Date32 = refl
logical-no-strings (formats.Time unit) = refl
logical-no-strings (formats.Timestamp unit is_zoned) = refl
logical-no-strings (formats.Decimal width precision scale) = refl

-- a string of a column whose strings are UTF-8
pub text-of : (cells : List (Option (List ℕ))) (row : ℕ) (bytes : List ℕ) → All (λ cell. IfSome cell (λ bs. IsUtf8 bs)) cells → slice_get cells row ≡ Some (Some bytes) → IsUtf8 bytes
text-of cells row bytes h e = subst (λ cell. IfSome cell (λ bs. IsUtf8 bs)) (get_or_from_slice_get cells row (Some bytes) (Some bytes) e) (h row (Some bytes) (slice_get_within cells row (Some bytes) e))

pub utf8-like : (case : Case) (parts : List Part) (bytes : List ℕ) → IsUtf8 bytes → is_like case parts (chars bytes) ≡ are_like case parts bytes
utf8-like case parts bytes h = ap (λ b. b && is_like case parts (chars bytes)) (sym (is_utf8-from_IsUtf8 bytes h))

-- ---- columns

-- what is said of the rows of a column that is known is said of the column
pub shown : (says : Content → Option Bool) (rows known : Rows) (i : ℕ) (told : Option Bool) → rows ≡ known → told ≡ says (content_of_row known i) → told ≡ says (content_of_row rows i)
shown says rows known i told e is = is ∙ ap (λ r. says (content_of_row r i)) (sym e)

-- rows of contents are rows of the column
pub counted : {X : Type 0} (of_value : X → Content) (validity : List ℕ) (value : ℕ → X) (offset count end : ℕ) → end ≤ length (map (content_or_null of_value) (cells_from validity value offset count)) → end ≤ count
counted of_value validity value offset count end h =
    omega (arith, h, length-map (cells_from validity value offset count) (content_or_null of_value), length-map-range_with_len (cell_at validity value) offset count)

pub range-known : (rows known : Rows) (end : ℕ) → rows ≡ known → end ≤ length (contents_of_rows rows) → end ≤ length (contents_of_rows known)
range-known rows known end e h = subst (λ r. end ≤ length (contents_of_rows r)) e h

-- each content of nulls alone is null
pub null-known : (says : Content → Option Bool) (rows : Rows) (n from count row : ℕ) (told : Option Bool) → rows ≡ Nulls n → row < count → from + count ≤ length (contents_of_rows rows) → told ≡ says null → told ≡ says (content_of_row rows (from + row))
null-known says rows n from count row told e below within is =
    let room : from + count ≤ length (replicate n null) = range-known rows (Nulls n) (from + count) e within in
    is ∙ ap says (sym (get_or-replicate n (from + row) null null (omega (arith, below, room, length-replicate n null)))) ∙ ap (λ r. says (content_of_row r (from + row))) (sym e)

-- ---- nulls

null-of-cell : {X : Type 0} (of_value : X → Content) → ((x : X) → is_null_content (of_value x) ≡ false) → (b : Bool) (x : X) → Some (not b) ≡ option_of (truth_of (is_null_content (content_or_null of_value (if b then Some x else None))))
null-of-cell of_value values true x = sym (ap (λ n. option_of (truth_of n)) (values x))
null-of-cell of_value values false x = refl

pub null-row : {X : Type 0} (of_value : X → Content) (validity : List ℕ) (value : ℕ → X) (offset count row : ℕ) (told : Option Bool) → ((x : X) → is_null_content (of_value x) ≡ false) → row < count → told ≡ Some (not (is_valid validity (offset + row)))
    → told ≡ option_of (truth_of (is_null_content (slice_index_or (map (content_or_null of_value) (cells_from validity value offset count)) row null)))
null-row of_value validity value offset count row told values below is =
    is ∙ null-of-cell of_value values (is_valid validity (offset + row)) (value (offset + row)) ∙ ap (λ c. option_of (truth_of (is_null_content c))) (sym (content-at of_value validity value offset count row below))

if-stored : (b : Bool) (z : ℤ) (bytes : List ℕ) → is_null_content (if b then whole z else string bytes) ≡ false
if-stored true z bytes = refl
if-stored false z bytes = refl

pub stored-value : (format : Format) (z : ℤ) → is_null_content (stored_content format z) ≡ false
stored-value formats.Float32 z = refl
stored-value formats.Float64 z = refl
stored-value formats.Date32 z = refl
stored-value (formats.Time unit) z = refl
stored-value (formats.Timestamp unit is_zoned) z = refl
stored-value (formats.Decimal width precision scale) z = if-stored (nat_le precision 18) z (decimal_bytes z)

-- ---- types

module _ (op : CompareOperator) (x literal : Cell) where
  of-one-type : (n s : Bool) (o : Option Ordering) → s ≡ true → (if n then Unknown else order_truth op o) ≡ (if n then Unknown else order_truth op (if s then o else None))
  of-one-type n true o e = refl
  of-one-type n false o e = cc

  of-two-types : (n s : Bool) (o : Option Ordering) → s ≡ false → None ≡ option_of (if n then Unknown else order_truth op (if s then o else None))
  of-two-types n true o e = cc
  of-two-types true false o e = refl
  of-two-types false false o e = refl

  pub same-compared : (told : Option Bool) → same_type x.typed literal.typed ≡ true → told ≡ option_of (content_compared op x.content literal.content) → told ≡ option_of (compare_truth op x literal)
  same-compared told same is = is ∙ ap option_of (of-one-type (is_null_content x.content || is_null_content literal.content) (same_type x.typed literal.typed) (order x.content literal.content) same)

  pub other-compared : (told : Option Bool) → same_type x.typed literal.typed ≡ false → told ≡ None → told ≡ option_of (compare_truth op x literal)
  other-compared told other is = is ∙ of-two-types (is_null_content x.content || is_null_content literal.content) (same_type x.typed literal.typed) (order x.content literal.content) other

module _ (x prefix : Cell) where
  begins-of-one : (s : Bool) (o : Option Bool) → s ≡ true → option_of (begins_truth o) ≡ option_of (begins_truth (if s then o else None))
  begins-of-one true o e = refl
  begins-of-one false o e = cc

  begins-of-two : (s : Bool) (o : Option Bool) → s ≡ false → None ≡ option_of (begins_truth (if s then o else None))
  begins-of-two true o e = cc
  begins-of-two false o e = refl

  pub same-begins : (told : Option Bool) → same_type x.typed prefix.typed ≡ true → told ≡ option_of (begins_truth (begins x.content prefix.content)) → told ≡ option_of (prefix_truth x prefix)
  same-begins told same is = is ∙ begins-of-one (same_type x.typed prefix.typed) (begins x.content prefix.content) same

  pub other-begins : (told : Option Bool) → same_type x.typed prefix.typed ≡ false → told ≡ None → told ≡ option_of (prefix_truth x prefix)
  other-begins told other is = is ∙ begins-of-two (same_type x.typed prefix.typed) (begins x.content prefix.content) other

-- a test of types tells whether they are the same
pub type-told : (test b : Bool) (s t u : TypeTree) → t ≡ u → IsTrue test ↔ Same s t → test ≡ b → same_type s u ≡ b
type-told test b s t u e tests is = ap (same_type s) (sym e) ∙ sym (same_from_decides test (same_type s t) tests (same_type-Decides s t)) ∙ is

-- ---- numbers of logical types

pub numbers-told : (says : ItemKind → Column → Option Bool) (k kind : ItemKind) (c column : Column) (told : Option Bool) → k ≡ kind → c ≡ column → told ≡ says k c → told ≡ says kind column
numbers-told says k kind c column told e f is = is ∙ ap (λ x. says x c) e ∙ ap (says kind) f

-- what stores the numbers of a format
by-not : (b : Bool) (z : ℤ) (bytes : List ℕ) → not b ≡ true → (if b then whole z else string bytes) ≡ string bytes
by-not true z bytes e = cc
by-not false z bytes e = refl

by-not-not : (b : Bool) (z : ℤ) (bytes : List ℕ) → not b ≡ false → (if b then whole z else string bytes) ≡ whole z
by-not-not true z bytes e = refl
by-not-not false z bytes e = cc

pub stored-as-bytes : (format : Format) → stores_bytes format ≡ true → (z : ℤ) → stored_content format z ≡ string (decimal_bytes z)
stored-as-bytes formats.Float32 e z = cc
stored-as-bytes formats.Float64 e z = cc
stored-as-bytes formats.Date32 e z = cc
stored-as-bytes (formats.Time unit) e z = cc
stored-as-bytes (formats.Timestamp unit is_zoned) e z = cc
stored-as-bytes (formats.Decimal width precision scale) e z = by-not (nat_le precision 18) z (decimal_bytes z) e

pub stored-as-numbers : (format : Format) → stores_bytes format ≡ false → (z : ℤ) → stored_content format z ≡ whole z
stored-as-numbers formats.Float32 e z = refl
stored-as-numbers formats.Float64 e z = refl
stored-as-numbers formats.Date32 e z = refl
stored-as-numbers (formats.Time unit) e z = refl
stored-as-numbers (formats.Timestamp unit is_zoned) e z = refl
stored-as-numbers (formats.Decimal width precision scale) e z = by-not-not (nat_le precision 18) z (decimal_bytes z) e
