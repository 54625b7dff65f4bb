-- A word is of one kind, and a text is of one column.
use Rattle.std.proofs.Common.{◌≡◌, ◌≢◌, ◌<◌, ◌≤◌, ◌^◌, ℕ, Bool, true, false, cond, eqb, if◌then◌else◌, List, [], ◌∷◌, ◌++◌, Option, None, Some, refl, sym, ap, ◌∙◌, subst, drop, arith}
use Rattle.std.specs.Str.{bytes_eq}
use Rattle.std.specs.Fmt.{decimal}
use Rattle.std.proofs.Math.Bridge.{le_prop}
use Rattle.std.proofs.lemmas.Bool.Decides.{nat_tests}
use Rattle.std.proofs.lemmas.Fmt.{decimal_injective}
use Rattle.std.proofs.lemmas.List.{append-nil, append_cancel_right}
use Rattle.logical_types.specs.Names.{decimal_name, name_of}
use Rattle.logical_types.specs.declared.times.TimeUnit.TheVariants.{Seconds, Milliseconds, Microseconds, Nanoseconds}
use Rattle.logical_types.specs.declared.logical.DecimalType.{DecimalType}
use Rattle.logical_types.specs.declared.logical.LogicalType.{LogicalType}
use Rattle.logical_types.specs.declared.logical.LogicalType.TheVariants.{Float64, Float32, Decimal, Date, Time, Timestamp}
use Rattle.record_rows.specs.declared.schema.ColumnType.{ColumnType}
use Rattle.record_rows.specs.declared.schema.Kind.{Kind}
use Rattle.record_rows.specs.declared.schema.Kind.TheVariants as kinds
use Rattle.vortex_dtype.specs.declared.ptype.PType.TheVariants as ptypes
use Rattle.vortex_dtype.specs.declared.nullability.Nullability.{Nullability}
use Rattle.vortex_dtype.specs.declared.nullability.Nullability.TheVariants.{NonNullable, Nullable}
use Rattle.csv_columns.specs.Setups.{IsPlain, kind_word, mark_of}
use Rattle.csv_columns.proofs.Clear.{decimal_has_none, has, word_lacks_mark}

-- ---- texts that are cut at a byte

head_of : (c x : ℕ) (xs : List ℕ) (t : Bool) → eqb x c ≡ t → cond t true (has c xs) ≡ false → (x ≡ c → ⊥) × (has c xs ≡ false)
head_of c x xs true e h = absurd cc
head_of c x xs false e h = ((λ same. grind (arith, e, same)), h)

pub cut_apart : (c : ℕ) (xs zs ys ws : List ℕ) → has c xs ≡ false → has c zs ≡ false → xs ++ c ∷ ys ≡ zs ++ c ∷ ws → (xs ≡ zs) × (ys ≡ ws)
cut_apart c [] [] ys ws a b e = (refl, ap (drop 1) e)
cut_apart c [] (z ∷ zs) ys ws a b e = absurd ((head_of c z zs (eqb z c) refl b).0 cc)
cut_apart c (x ∷ xs) [] ys ws a b e = absurd ((head_of c x xs (eqb x c) refl a).0 cc)
cut_apart c (x ∷ xs) (z ∷ zs) ys ws a b e =
    let same : x ≡ z = cc in
    let rest = cut_apart c xs zs ys ws (head_of c x xs (eqb x c) refl a).1 (head_of c z zs (eqb z c) refl b).1 (ap (drop 1) e) in
    (rw (same, rest.0) refl, rest.1)

-- ---- decimals

abbrev made : (p s : ℕ) → 0 < p → p ≤ 38 → s ≤ p → DecimalType
made p s some small within = record { precision = p; scale = s; some = some; small = small; within = within }

same_made : (d : DecimalType) (some : 0 < d.precision) (small : d.precision ≤ 38) (within : d.scale ≤ d.precision) → d ≡ made d.precision d.scale some small within
same_made d some small within =
    ap (λ (h : 0 < d.precision). made d.precision d.scale h d.small d.within) (le_prop d.some some)
    ∙ ap (λ (h : d.precision ≤ 38). made d.precision d.scale some h d.within) (le_prop d.small small)
    ∙ ap (λ (h : d.scale ≤ d.precision). made d.precision d.scale some small h) (le_prop d.within within)

same_decimal : (d e : DecimalType) → d.precision ≡ e.precision → d.scale ≡ e.scale → d ≡ e
same_decimal d e p s =
    subst (λ (n : ℕ). (m : ℕ) → d.scale ≡ m → (some : 0 < n) (small : n ≤ 38) (within : m ≤ n) → d ≡ made n m some small within) p
    (λ m t. subst (λ (m : ℕ). (some : 0 < d.precision) (small : d.precision ≤ 38) (within : m ≤ d.precision) → d ≡ made d.precision m some small within) t (same_made d))
    e.scale s e.some e.small e.within

one_decimal : (d e : DecimalType) → decimal_name d ≡ decimal_name e → d ≡ e
one_decimal d e is =
    let fits : (c : DecimalType) → (c.precision < 2 ^ 64) × (c.scale < 2 ^ 64) = λ c. (omega (arith, c.small), omega (arith, c.small, c.within)) in
    let parts = cut_apart 44 (decimal d.precision) (decimal e.precision) (decimal d.scale ++ 41 ∷ []) (decimal e.scale ++ 41 ∷ [])
    (decimal_has_none 44 (omega arith) d.precision (fits d).0) (decimal_has_none 44 (omega arith) e.precision (fits e).0) (ap (drop 8) is) in
    let ends = cut_apart 41 (decimal d.scale) (decimal e.scale) [] []
    (decimal_has_none 41 (omega arith) d.scale (fits d).1) (decimal_has_none 41 (omega arith) e.scale (fits e).1) parts.1 in
    same_decimal d e (decimal_injective d.precision e.precision (fits d).0 (fits e).0 parts.0) (decimal_injective d.scale e.scale (fits d).1 (fits e).1 ends.0)

-- ---- kinds

-- every kind but decimals
abbrev others : List Kind
others =
    (kinds.Integer ptypes.I8) ∷ (kinds.Integer ptypes.I16) ∷ (kinds.Integer ptypes.I32) ∷ (kinds.Integer ptypes.I64) ∷ (kinds.Integer ptypes.U8)
    ∷ (kinds.Integer ptypes.U16) ∷ (kinds.Integer ptypes.U32) ∷ (kinds.Integer ptypes.U64) ∷ kinds.Utf8 ∷ kinds.Binary ∷ kinds.Bytes
    ∷ (kinds.Logical Float64) ∷ (kinds.Logical Float32) ∷ (kinds.Logical Date) ∷ (kinds.Logical (Time Seconds)) ∷ (kinds.Logical (Time Milliseconds))
    ∷ (kinds.Logical (Time Microseconds)) ∷ (kinds.Logical (Time Nanoseconds)) ∷ (kinds.Logical (Timestamp Seconds false)) ∷ (kinds.Logical (Timestamp Milliseconds false)) ∷ (kinds.Logical (Timestamp Microseconds false))
    ∷ (kinds.Logical (Timestamp Nanoseconds false)) ∷ (kinds.Logical (Timestamp Seconds true)) ∷ (kinds.Logical (Timestamp Milliseconds true)) ∷ (kinds.Logical (Timestamp Microseconds true)) ∷ (kinds.Logical (Timestamp Nanoseconds true)) ∷ []

abbrev find_in : List Kind → List ℕ → Option Kind
find_in [] word = None
find_in (k ∷ ks) word = if bytes_eq (kind_word k) word then Some k else find_in ks word

-- a kind is found by its word, or is one of decimals, whose word is no other's
data Found (k : Kind) : Type 0 where
  by_word : find_in others (kind_word k) ≡ Some k → Found k
  by_decimals : (d : DecimalType) → k ≡ kinds.Logical (Decimal d) → Found k

found : (k : Kind) → Found k
found (kinds.Integer ptypes.I8) = by_word refl
found (kinds.Integer ptypes.I16) = by_word refl
found (kinds.Integer ptypes.I32) = by_word refl
found (kinds.Integer ptypes.I64) = by_word refl
found (kinds.Integer ptypes.U8) = by_word refl
found (kinds.Integer ptypes.U16) = by_word refl
found (kinds.Integer ptypes.U32) = by_word refl
found (kinds.Integer ptypes.U64) = by_word refl
found kinds.Utf8 = by_word refl
found kinds.Binary = by_word refl
found kinds.Bytes = by_word refl
found (kinds.Logical Float64) = by_word refl
found (kinds.Logical Float32) = by_word refl
found (kinds.Logical Date) = by_word refl
found (kinds.Logical (Time Seconds)) = by_word refl
found (kinds.Logical (Time Milliseconds)) = by_word refl
found (kinds.Logical (Time Microseconds)) = by_word refl
found (kinds.Logical (Time Nanoseconds)) = by_word refl
found (kinds.Logical (Timestamp Seconds false)) = by_word refl
found (kinds.Logical (Timestamp Milliseconds false)) = by_word refl
found (kinds.Logical (Timestamp Microseconds false)) = by_word refl
found (kinds.Logical (Timestamp Nanoseconds false)) = by_word refl
found (kinds.Logical (Timestamp Seconds true)) = by_word refl
found (kinds.Logical (Timestamp Milliseconds true)) = by_word refl
found (kinds.Logical (Timestamp Microseconds true)) = by_word refl
found (kinds.Logical (Timestamp Nanoseconds true)) = by_word refl
found (kinds.Logical (Decimal d)) = by_decimals d refl

no_other : (d : DecimalType) → find_in others (decimal_name d) ≡ None
no_other d = refl

same_some : (o : Option Kind) (j k : Kind) → o ≡ Some j → o ≡ Some k → j ≡ k
same_some o j k a b = cc

some_none : (o : Option Kind) (k : Kind) → o ≡ Some k → o ≡ None → ⊥
some_none o k a b = cc

one_of : (j k : Kind) → kind_word j ≡ kind_word k → Found j → Found k → j ≡ k
one_of j k e (by_word a) (by_word b) = same_some (find_in others (kind_word k)) j k (ap (find_in others) (sym e) ∙ a) b
one_of j k e (by_word a) (by_decimals d is) = absurd (some_none (find_in others (kind_word j)) j a (ap (find_in others) (e ∙ ap kind_word is) ∙ no_other d))
one_of j k e (by_decimals d is) (by_word b) = absurd (some_none (find_in others (kind_word k)) k b (ap (find_in others) (sym e ∙ ap kind_word is) ∙ no_other d))
one_of j k e (by_decimals d is) (by_decimals c same) =
    is ∙ ap (λ (x : DecimalType). kinds.Logical (Decimal x)) (one_decimal d c (ap kind_word (sym is) ∙ e ∙ ap kind_word same)) ∙ sym same

-- a word is of one kind
pub one_kind : (j k : Kind) → kind_word j ≡ kind_word k → j ≡ k
one_kind j k e = one_of j k e (found j) (found k)

-- what is found of each plain kind, and of no word of a logical type, is found of each kind
pub plain_or_none : (word : List ℕ) (r : Option Kind) → ((l : LogicalType) → word ≢ name_of l) → ((k : Kind) → IsPlain k → word ≡ kind_word k → r ≡ Some k) → (k : Kind) → word ≡ kind_word k → r ≡ Some k
plain_or_none word r none plain (kinds.Integer p) e = plain (kinds.Integer p) tt e
plain_or_none word r none plain kinds.Utf8 e = plain kinds.Utf8 tt e
plain_or_none word r none plain kinds.Binary e = plain kinds.Binary tt e
plain_or_none word r none plain kinds.Bytes e = plain kinds.Bytes tt e
plain_or_none word r none plain (kinds.Logical l) e = absurd (none l e)

-- ---- marks

itself : (n : ℕ) → eqb n n ≡ true
itself n = grind (arith, nat_tests)

or_later : (t later : Bool) → later ≡ true → cond t true later ≡ true
or_later true later h = refl
or_later false later h = h

has_last : (c : ℕ) (xs : List ℕ) → has c (xs ++ c ∷ []) ≡ true
has_last c [] = rw (itself c) refl
has_last c (x ∷ xs) = or_later (eqb x c) (has c (xs ++ c ∷ [])) (has_last c xs)

-- a column whose text ends in a question mark
pub marked_text : (k : Kind) (n : Nullability) (word : List ℕ) → word ++ 63 ∷ [] ≡ kind_word k ++ mark_of n → (word ≡ kind_word k) × (n ≡ Nullable)
marked_text k Nullable word e = (append_cancel_right word (kind_word k) (63 ∷ []) e, refl)
marked_text k NonNullable word e =
    let is : word ++ 63 ∷ [] ≡ kind_word k = e ∙ append-nil (kind_word k) in
    let there : has 63 (kind_word k) ≡ true = ap (has 63) (sym is) ∙ has_last 63 word in
    let none : has 63 (kind_word k) ≡ false = word_lacks_mark k in
    absurd cc

-- and one whose text does not
pub bare_text : (k : Kind) (n : Nullability) (text : List ℕ) → ((word : List ℕ) → text ≢ word ++ 63 ∷ []) → text ≡ kind_word k ++ mark_of n → (text ≡ kind_word k) × (n ≡ NonNullable)
bare_text k Nullable text bare e = absurd (bare (kind_word k) e)
bare_text k NonNullable text bare e = (e ∙ append-nil (kind_word k), refl)

pub same_column : (c : ColumnType) (k : Kind) (n : Nullability) → c.kind ≡ k → c.nullability ≡ n → Some (record { kind = k; nullability = n }) ≡ Some c
same_column c k n a b =
    ap (λ (x : Kind). let t : ColumnType = record { kind = x; nullability = n } in Some t) (sym a)
    ∙ ap (λ (x : Nullability). let t : ColumnType = record { kind = c.kind; nullability = x } in Some t) (sym b)
