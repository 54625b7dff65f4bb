-- Texts without a byte, and where they are cut at one.
use Rattle.std.proofs.Common.{◌≡◌, ◌≢◌, ◌<◌, ◌≤◌, ◌^◌, ℕ, Bool, true, false, cond, eqb, List, [], ◌∷◌, ◌++◌, length, subst, arith, ◌∙◌, ap, sym, refl}
use Rattle.std.specs.Prelude.{All, Err, None, Ok, Result, Some, codes, string_bytes}
use Rattle.std.specs.Char.{digit_value}
use Rattle.std.specs.Fmt.{decimal}
use Rattle.std.specs.Str.Parse.{AllDigits, ParsesUnsigned}
use Rattle.std.proofs.lemmas.Bool.{ne_eqb}
use Rattle.std.proofs.lemmas.Fmt.{decimal_is_IsNumeral}
use Rattle.std.proofs.lemmas.List.{append_assoc, length-append, map-append}
use Rattle.std.proofs.lemmas.List.Elements.{All-append, All-cons, All-nil}
use Rattle.csv_columns.specs.Names.{IsName}
use Rattle.csv_columns.specs.declared.column_words.NamedColumn.{NamedColumn}
use Rattle.csv_columns.specs.Setups.{ColumnValue, FitNumbers, HaveNames, column_line, column_lines, column_value, column_values, kind_text, kind_word, mark_of, numbers_text, SaysNumber}
use Rattle.logical_types.specs.Names.{decimal_name}
use Rattle.logical_types.specs.declared.times.TimeUnit.TheVariants.{Seconds, Milliseconds, Microseconds, Nanoseconds}
use Rattle.logical_types.specs.declared.logical.DecimalType.{DecimalType}
use Rattle.logical_types.specs.declared.logical.LogicalType.TheVariants.{Float64, Float32, Decimal, Date, Time, Timestamp}
use Rattle.record_rows.specs.declared.schema.ColumnType.{ColumnType}
use Rattle.record_rows.specs.declared.schema.Kind.{Kind}
use Rattle.record_rows.specs.declared.schema.Kind.TheVariants as kinds
use Rattle.vortex_dtype.specs.declared.nullability.Nullability.{Nullability}
use Rattle.vortex_dtype.specs.declared.nullability.Nullability.TheVariants.{NonNullable, Nullable}
use Rattle.vortex_dtype.specs.declared.ptype.PType.TheVariants as ptypes
use Rattle.csv_columns.specs.declared.setup.Numbers.{Numbers}

-- no byte of a text is this one
abbrev pub Lacks : ℕ → List ℕ → Type 0
Lacks c xs = All (λ b. b ≢ c) xs

-- digits lack a byte that is none
pub digits_lack : (c : ℕ) → 10 ≤ digit_value c → (ds : List ℕ) → AllDigits 10 ds → Lacks c ds
digits_lack c high [] all = All-nil (λ b. b ≢ c)
digits_lack c high (d ∷ ds) all =
    All-cons (λ b. b ≢ c) d ds
    (λ e. let low : digit_value c < 10 = subst (λ (x : ℕ). digit_value x < 10) e all.0 in absurd (omega arith))
    (digits_lack c high ds all.1)

pub decimal_lacks : (c : ℕ) → 10 ≤ digit_value c → (n : ℕ) → n < 2 ^ 64 → Lacks c (decimal n)
decimal_lacks c high n small = digits_lack c high (decimal n) ((decimal_is_IsNumeral n small).0.1)

-- whether the byte is there
abbrev pub has : ℕ → List ℕ → Bool
has c [] = false
has c (x ∷ xs) = cond (eqb x c) true (has c xs)

pub lacks_from : (c : ℕ) (xs : List ℕ) → has c xs ≡ false → Lacks c xs
lacks_from c [] e = All-nil (λ b. b ≢ c)
lacks_from c (x ∷ xs) e = All-cons (λ b. b ≢ c) x xs (λ is. grind (arith, e, is)) (lacks_from c xs (grind (arith, e)))

-- what two texts lack, they lack together
has_more : (c x : ℕ) (xs ys : List ℕ) (t : Bool) → eqb x c ≡ t → cond t true (has c xs) ≡ false → (has c xs ≡ false → has c (xs ++ ys) ≡ false) → has c (x ∷ (xs ++ ys)) ≡ false
has_more c x xs ys true e h more = absurd cc
has_more c x xs ys false e h more = rw e (more h)

pub has_append : (c : ℕ) (xs ys : List ℕ) → has c xs ≡ false → has c ys ≡ false → has c (xs ++ ys) ≡ false
has_append c [] ys a b = b
has_append c (x ∷ xs) ys a b = has_more c x xs ys (eqb x c) refl a (λ h. has_append c xs ys h b)

digits_have_none : (c : ℕ) → 10 ≤ digit_value c → (ds : List ℕ) → AllDigits 10 ds → has c ds ≡ false
digits_have_none c high [] all = refl
digits_have_none c high (d ∷ ds) all =
    rw (ne_eqb d c (λ e. let low : digit_value c < 10 = subst (λ (x : ℕ). digit_value x < 10) e all.0 in omega arith)) (digits_have_none c high ds all.1)

pub decimal_has_none : (c : ℕ) → 10 ≤ digit_value c → (n : ℕ) → n < 2 ^ 64 → has c (decimal n) ≡ false
decimal_has_none c high n small = digits_have_none c high (decimal n) ((decimal_is_IsNumeral n small).0.1)

-- the name of a type of decimals lacks a byte that is no digit and in none of its other parts
pub decimals_lack : (c : ℕ) → 10 ≤ digit_value c → has c (codes "decimal(") ≡ false → has c (44 ∷ []) ≡ false → has c (41 ∷ []) ≡ false → (d : DecimalType) → has c (decimal_name d) ≡ false
decimals_lack c high front comma close d =
    has_append c (codes "decimal(") _ front
    (has_append c (decimal d.precision) _ (decimal_has_none c high d.precision (omega (arith, d.small)))
    (has_append c (44 ∷ []) _ comma
    (has_append c (decimal d.scale) (41 ∷ []) (decimal_has_none c high d.scale (omega (arith, d.small, d.within))) close)))

-- the word for a kind has no blank, no line feed and no question mark
pub word_lacks_blank : (k : Kind) → has 32 (kind_word k) ≡ false
word_lacks_blank (kinds.Integer ptypes.I8) = refl
word_lacks_blank (kinds.Integer ptypes.I16) = refl
word_lacks_blank (kinds.Integer ptypes.I32) = refl
word_lacks_blank (kinds.Integer ptypes.I64) = refl
word_lacks_blank (kinds.Integer ptypes.U8) = refl
word_lacks_blank (kinds.Integer ptypes.U16) = refl
word_lacks_blank (kinds.Integer ptypes.U32) = refl
word_lacks_blank (kinds.Integer ptypes.U64) = refl
word_lacks_blank kinds.Utf8 = refl
word_lacks_blank kinds.Binary = refl
word_lacks_blank kinds.Bytes = refl
word_lacks_blank (kinds.Logical Float64) = refl
word_lacks_blank (kinds.Logical Float32) = refl
word_lacks_blank (kinds.Logical Date) = refl
word_lacks_blank (kinds.Logical (Time Seconds)) = refl
word_lacks_blank (kinds.Logical (Time Milliseconds)) = refl
word_lacks_blank (kinds.Logical (Time Microseconds)) = refl
word_lacks_blank (kinds.Logical (Time Nanoseconds)) = refl
word_lacks_blank (kinds.Logical (Timestamp Seconds false)) = refl
word_lacks_blank (kinds.Logical (Timestamp Milliseconds false)) = refl
word_lacks_blank (kinds.Logical (Timestamp Microseconds false)) = refl
word_lacks_blank (kinds.Logical (Timestamp Nanoseconds false)) = refl
word_lacks_blank (kinds.Logical (Timestamp Seconds true)) = refl
word_lacks_blank (kinds.Logical (Timestamp Milliseconds true)) = refl
word_lacks_blank (kinds.Logical (Timestamp Microseconds true)) = refl
word_lacks_blank (kinds.Logical (Timestamp Nanoseconds true)) = refl
word_lacks_blank (kinds.Logical (Decimal d)) = decimals_lack 32 (omega arith) refl refl refl d

pub word_lacks_feed : (k : Kind) → has 10 (kind_word k) ≡ false
word_lacks_feed (kinds.Integer ptypes.I8) = refl
word_lacks_feed (kinds.Integer ptypes.I16) = refl
word_lacks_feed (kinds.Integer ptypes.I32) = refl
word_lacks_feed (kinds.Integer ptypes.I64) = refl
word_lacks_feed (kinds.Integer ptypes.U8) = refl
word_lacks_feed (kinds.Integer ptypes.U16) = refl
word_lacks_feed (kinds.Integer ptypes.U32) = refl
word_lacks_feed (kinds.Integer ptypes.U64) = refl
word_lacks_feed kinds.Utf8 = refl
word_lacks_feed kinds.Binary = refl
word_lacks_feed kinds.Bytes = refl
word_lacks_feed (kinds.Logical Float64) = refl
word_lacks_feed (kinds.Logical Float32) = refl
word_lacks_feed (kinds.Logical Date) = refl
word_lacks_feed (kinds.Logical (Time Seconds)) = refl
word_lacks_feed (kinds.Logical (Time Milliseconds)) = refl
word_lacks_feed (kinds.Logical (Time Microseconds)) = refl
word_lacks_feed (kinds.Logical (Time Nanoseconds)) = refl
word_lacks_feed (kinds.Logical (Timestamp Seconds false)) = refl
word_lacks_feed (kinds.Logical (Timestamp Milliseconds false)) = refl
word_lacks_feed (kinds.Logical (Timestamp Microseconds false)) = refl
word_lacks_feed (kinds.Logical (Timestamp Nanoseconds false)) = refl
word_lacks_feed (kinds.Logical (Timestamp Seconds true)) = refl
word_lacks_feed (kinds.Logical (Timestamp Milliseconds true)) = refl
word_lacks_feed (kinds.Logical (Timestamp Microseconds true)) = refl
word_lacks_feed (kinds.Logical (Timestamp Nanoseconds true)) = refl
word_lacks_feed (kinds.Logical (Decimal d)) = decimals_lack 10 (omega arith) refl refl refl d

pub word_lacks_mark : (k : Kind) → has 63 (kind_word k) ≡ false
word_lacks_mark (kinds.Integer ptypes.I8) = refl
word_lacks_mark (kinds.Integer ptypes.I16) = refl
word_lacks_mark (kinds.Integer ptypes.I32) = refl
word_lacks_mark (kinds.Integer ptypes.I64) = refl
word_lacks_mark (kinds.Integer ptypes.U8) = refl
word_lacks_mark (kinds.Integer ptypes.U16) = refl
word_lacks_mark (kinds.Integer ptypes.U32) = refl
word_lacks_mark (kinds.Integer ptypes.U64) = refl
word_lacks_mark kinds.Utf8 = refl
word_lacks_mark kinds.Binary = refl
word_lacks_mark kinds.Bytes = refl
word_lacks_mark (kinds.Logical Float64) = refl
word_lacks_mark (kinds.Logical Float32) = refl
word_lacks_mark (kinds.Logical Date) = refl
word_lacks_mark (kinds.Logical (Time Seconds)) = refl
word_lacks_mark (kinds.Logical (Time Milliseconds)) = refl
word_lacks_mark (kinds.Logical (Time Microseconds)) = refl
word_lacks_mark (kinds.Logical (Time Nanoseconds)) = refl
word_lacks_mark (kinds.Logical (Timestamp Seconds false)) = refl
word_lacks_mark (kinds.Logical (Timestamp Milliseconds false)) = refl
word_lacks_mark (kinds.Logical (Timestamp Microseconds false)) = refl
word_lacks_mark (kinds.Logical (Timestamp Nanoseconds false)) = refl
word_lacks_mark (kinds.Logical (Timestamp Seconds true)) = refl
word_lacks_mark (kinds.Logical (Timestamp Milliseconds true)) = refl
word_lacks_mark (kinds.Logical (Timestamp Microseconds true)) = refl
word_lacks_mark (kinds.Logical (Timestamp Nanoseconds true)) = refl
word_lacks_mark (kinds.Logical (Decimal d)) = decimals_lack 63 (omega arith) refl refl refl d

mark_lacks_blank : (n : Nullability) → has 32 (mark_of n) ≡ false
mark_lacks_blank Nullable = refl
mark_lacks_blank NonNullable = refl

pub kind_lacks_blank : (k : Kind) (n : Nullability) → has 32 (kind_word k ++ mark_of n) ≡ false
kind_lacks_blank k n = has_append 32 (kind_word k) (mark_of n) (word_lacks_blank k) (mark_lacks_blank n)

mark_lacks_feed : (n : Nullability) → has 10 (mark_of n) ≡ false
mark_lacks_feed Nullable = refl
mark_lacks_feed NonNullable = refl

pub kind_lacks_feed : (k : Kind) (n : Nullability) → has 10 (kind_word k ++ mark_of n) ≡ false
kind_lacks_feed k n = has_append 10 (kind_word k) (mark_of n) (word_lacks_feed k) (mark_lacks_feed n)

-- the line of a column, without its line feed
abbrev pub column_words : ColumnValue → List ℕ
column_words c = kind_text c.column ++ 32 ∷ c.name

pub words_lack_feed : (c : ColumnValue) → IsName c.name → Lacks 10 (column_words c)
words_lack_feed c named =
    All-append (λ b. b ≢ 10) (kind_text c.column) (32 ∷ c.name)
    (lacks_from 10 (kind_text c.column) (kind_lacks_feed c.column.kind c.column.nullability))
    (All-cons (λ b. b ≢ 10) 32 c.name (λ e. absurd (omega arith)) named.one_line)

pub line_is : (c : ColumnValue) (rest : List ℕ) → column_line c ++ rest ≡ column_words c ++ 10 ∷ rest
line_is c rest = simp append_assoc

pub one_is_digit : (b : Bool) → cond b 1 0 < 2 ^ 64
one_is_digit true = omega arith
one_is_digit false = omega arith

pub numbers_lack_feed : (n : Numbers) → FitNumbers n → Lacks 10 (numbers_text n)
numbers_lack_feed n fit =
    All-append (λ b. b ≢ 10) _ _ (decimal_lacks 10 (omega arith) n.delimiter (omega (arith, fit.delimiter)))
    (All-cons (λ b. b ≢ 10) 32 _ (λ e. absurd (omega arith))
    (All-append (λ b. b ≢ 10) _ _ (decimal_lacks 10 (omega arith) (cond n.is_lenient 1 0) (one_is_digit n.is_lenient))
    (All-cons (λ b. b ≢ 10) 32 _ (λ e. absurd (omega arith))
    (All-append (λ b. b ≢ 10) _ _ (decimal_lacks 10 (omega arith) n.bound_length fit.bound_length)
    (All-cons (λ b. b ≢ 10) 32 _ (λ e. absurd (omega arith))
    (decimal_lacks 10 (omega arith) n.zone_rows fit.zone_rows))))))

pub ok_same : {E : Type 0} (a b : ℕ) (r : Result ℕ E) → r ≡ Ok a → r ≡ Ok b → a ≡ b
ok_same a b r p q = cc

pub err_is_not : {E : Type 0} (e : E) (b : ℕ) (r : Result ℕ E) → r ≡ Err e → r ≡ Ok b → ⊥
err_is_not e b r p q = cc

pub some_same : {A : Type 0} (a b : A) → Some a ≡ Some b → a ≡ b
some_same a b e = cc

pub none_is_not : {A : Type 0} (a : A) → None ≡ Some a → ⊥
none_is_not a e = cc

pub same_numbers : (a b : Numbers) → a.delimiter ≡ b.delimiter → a.is_lenient ≡ b.is_lenient → a.bound_length ≡ b.bound_length → a.zone_rows ≡ b.zone_rows → Some a ≡ Some b
same_numbers a b d i l z =
    ap (λ (n : Numbers). Some n) (
    ap (λ (x : ℕ). record a { delimiter = x }) d
    ∙ ap (λ (x : Bool). record b { is_lenient = x; bound_length = a.bound_length; zone_rows = a.zone_rows }) i
    ∙ ap (λ (x : ℕ). record b { bound_length = x; zone_rows = a.zone_rows }) l
    ∙ ap (λ (x : ℕ). record b { zone_rows = x }) z)

pub same_column : (c : ColumnValue) (name : List ℕ) (column : ColumnType) → name ≡ c.name → column ≡ c.column → record { name = name; column = column } ≡ c
same_column c name column n t = ap (λ (x : List ℕ). record { name = x; column = column }) n ∙ ap (λ (x : ColumnType). record c { column = x }) t

-- what is left of lines begins with that of a column, or is nothing
pub record BeginsWith (rest : List ℕ) (others : List ColumnValue) : Type 0 where
  pub column : ColumnValue
  pub more : List ColumnValue
  pub others_are : others ≡ column ∷ more
  pub named : IsName column.name
  pub names : HaveNames more
  pub is : rest ≡ column_words column ++ 10 ∷ column_lines more

pub begins_with : (rest : List ℕ) (others : List ColumnValue) → HaveNames others → rest ≡ column_lines others → 0 < length rest → BeginsWith rest others
begins_with rest [] names is full = absurd (omega (arith, ap length is))
begins_with rest (c ∷ more) names is full = record { column = c; more = more; others_are = refl; named = names.0; names = names.1; is = is ∙ line_is c (column_lines more) }

pub none_left : (others : List ColumnValue) → length (column_lines others) ≡ 0 → others ≡ []
none_left [] e = refl
none_left (c ∷ more) e =
    let long : length (column_words c ++ 10 ∷ column_lines more) ≡ 0 = ap length (sym (line_is c (column_lines more))) ∙ e in
    absurd (omega (arith, length-append (column_words c) (10 ∷ column_lines more)))

pub one_column_more : (columns others more : List ColumnValue) (c : ColumnValue) (old : List NamedColumn) (x : NamedColumn) → columns ≡ column_values old ++ others → others ≡ c ∷ more → column_value x ≡ c → columns ≡ column_values (old ++ x ∷ []) ++ more
one_column_more columns others more c old x are is same =
    are ∙ ap (λ (o : List ColumnValue). column_values old ++ o) (is ∙ ap (λ (y : ColumnValue). y ∷ more) (sym same))
    ∙ sym (append_assoc (column_values old) (column_value x ∷ []) more) ∙ ap (λ (l : List ColumnValue). l ++ more) (sym (map-append column_value old (x ∷ [])))

-- each column so far has a name, and so has one more
pub names_more : (columns : List NamedColumn) (named : NamedColumn) → HaveNames (column_values columns) → IsName (string_bytes named.name) → HaveNames (column_values (columns ++ named ∷ []))
names_more [] named names name = (name, tt)
names_more (c ∷ cs) named names name = (names.0, names_more cs named names.1 name)

-- what `parse` reads of a word
pub says_parsed : {E : Type 0} → (word : List ℕ) (n : ℕ) (r : Result ℕ E) → r ≡ Ok n → ParsesUnsigned 64 10 word r → SaysNumber word n
says_parsed word n r is parsed = let p = subst (λ (x : Result ℕ _). ParsesUnsigned 64 10 word x) is parsed in record { digits = p.0.0; value = sym p.1 }

-- a line that is cut at its first three blanks
pub says_joined : (line a b rows front middle last : List ℕ) → line ≡ front ++ 32 ∷ a → a ≡ middle ++ 32 ∷ b → b ≡ last ++ 32 ∷ rows → line ≡ front ++ 32 ∷ (middle ++ 32 ∷ (last ++ 32 ∷ rows))
says_joined line a b rows front middle last first second third =
    first ∙ ap (λ (x : List ℕ). front ++ 32 ∷ x) (second ∙ ap (λ (x : List ℕ). middle ++ 32 ∷ x) third)
