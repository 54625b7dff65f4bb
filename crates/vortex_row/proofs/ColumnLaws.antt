-- The order of keys in columns, and of the keys of rows.
use Rattle.std.proofs.Common.{◌≡◌, ℕ, ◌<◌, inl, List, [], ◌∷◌, length, Bool, true, false, if◌then◌else◌, Option, Some, None, Ordering, Less, Greater, refl, ap, arith}
use Rattle.std.specs.List.{All}
use Rattle.std.proofs.lemmas.List.Elements.{All-head, All-tail}
use Rattle.vortex_dtype.specs.TypeTree.{TypeTree}
use Rattle.vortex_value.specs.Equality.{same_type}
use Rattle.vortex_value.specs.Order.{order, typed_order}
use Rattle.vortex_value.specs.Values.Content.{Content, null}
use Rattle.vortex_row.specs.Columns.{null_byte, key_with, in_column, column_cmp, row_key, row_cmp}
use Rattle.vortex_row.specs.ContentOrder.{content_cmp}
use Rattle.vortex_row.specs.Held.{IsHeld}
use Rattle.vortex_row.specs.Keys.{inverted, key}
use Rattle.vortex_row.specs.Places.{OrderedAs}
use Rattle.vortex_row.specs.declared.options.SortOptions.{SortOptions}
use Rattle.vortex_row.proofs.ByteLaws.{inverted-ordered}
use Rattle.vortex_row.proofs.OrderLaws.{least, most, begins, key-ordered, key-bytes, order-is_cmp}
use Rattle.vortex_row.proofs.PlaceLaws.{ordered-then}

-- a null's byte is below, or above, the first byte of each other key, inverted or not

null-above : (first down : Bool) (b : ℕ) (xs : List ℕ) → 1 < b → b < 26 → OrderedAs (if first then Less else Greater) (null_byte first ∷ []) (inverted down (b ∷ xs))
null-above true true b xs p q = inl (omega arith)
null-above true false b xs p q = inl (omega arith)
null-above false true b xs p q = inl (omega arith)
null-above false false b xs p q = inl (omega arith)

above-null : (first down : Bool) (b : ℕ) (xs : List ℕ) → 1 < b → b < 26 → OrderedAs (if first then Greater else Less) (inverted down (b ∷ xs)) (null_byte first ∷ [])
above-null true true b xs p q = inl (omega arith)
above-null true false b xs p q = inl (omega arith)
above-null false true b xs p q = inl (omega arith)
above-null false false b xs p q = inl (omega arith)

null-first : (first down : Bool) (d : Content) → 1 < least d → most d < 26 → OrderedAs (if first then Less else Greater) (null_byte first ∷ []) (inverted down (key d))
null-first first down d p q =
    let head = begins d in
    let low = head.low in
    let high = head.high in
    rw head.is (null-above first down head.first head.rest (omega arith) (omega arith))

null-second : (first down : Bool) (c : Content) → 1 < least c → most c < 26 → OrderedAs (if first then Greater else Less) (inverted down (key c)) (null_byte first ∷ [])
null-second first down c p q =
    let head = begins c in
    let low = head.low in
    let high = head.high in
    rw head.is (above-null first down head.first head.rest (omega arith) (omega arith))

-- the order in a column
pub column-ordered : (o : SortOptions) (c d : Content) → IsHeld c → IsHeld d → OrderedAs (column_cmp o c d) (key_with o c) (key_with o d)
column-ordered o null null p q = refl
column-ordered o null d p q = null-first o.nulls_first o.descending d (omega arith) (omega arith)
column-ordered o c null p q = null-second o.nulls_first o.descending c (omega arith) (omega arith)
column-ordered o c d p q = inverted-ordered o.descending (content_cmp c d) (key c) (key d) (key-bytes c p) (key-bytes d q) (key-ordered c d p q)

-- the order of rows
pub row-ordered : (os : List SortOptions) (cs ds : List Content) → length cs ≡ length ds → All IsHeld cs → All IsHeld ds
    → OrderedAs (row_cmp os cs ds) (row_key os cs) (row_key os ds)
row-ordered [] cs ds e p q = refl
row-ordered (o ∷ os) [] [] e p q = refl
row-ordered (o ∷ os) [] (d ∷ ds) e p q = absurd (omega arith)
row-ordered (o ∷ os) (c ∷ cs) [] e p q = absurd (omega arith)
row-ordered (o ∷ os) (c ∷ cs) (d ∷ ds) e p q =
    ordered-then (column_cmp o c d) (row_cmp os cs ds) (key_with o c) (key_with o d) (row_key os cs) (row_key os ds)
    (column-ordered o c d (All-head IsHeld c cs p) (All-head IsHeld d ds q))
    (row-ordered os cs ds (omega arith) (All-tail IsHeld c cs p) (All-tail IsHeld d ds q))

-- the order that `partial_cmp` gives

pub column-is_order : (o : SortOptions) (c d : Content) (r : Ordering) → order c d ≡ Some r → column_cmp o c d ≡ in_column o c d r
column-is_order o c d r e = ap (in_column o c d) (order-is_cmp c d r e)

of_same : (b : Bool) (p : Option Ordering) (r : Ordering) → (if b then p else None) ≡ Some r → p ≡ Some r
of_same true p r e = e
of_same false p r e = absurd (cc)

pub typed-is_order : (o : SortOptions) (s t : TypeTree) (c d : Content) (r : Ordering) → typed_order s c t d ≡ Some r → column_cmp o c d ≡ in_column o c d r
typed-is_order o s t c d r e = column-is_order o c d r (of_same (same_type s t) (order c d) r e)
