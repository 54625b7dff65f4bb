-- A printed filter is in the grammar.
use Rattle.std.proofs.Common.{◌≡◌, ◌↔◌, inl, inr, ◌≤◌, ◌<◌, ◌-◌, ◌^◌, ◌&&◌, ℕ, suc, max, ℤ, pos, negsuc, Bool, true, false, cond, List, [], ◌∷◌, ◌++◌, drop, Option, Some, None, option_and_then, unsigned_abs, append-nil, refl, sym, ap, subst, ◌∙◌, arith}
use Rattle.std.specs.Prelude.{option_map}
use Rattle.std.specs.List.{AllByRecursion, list_any}
use Rattle.std.specs.Fmt.{decimal}
use Rattle.std.specs.Ordering.{int_cmp}
use Rattle.std.specs.Str.{IsUtf8, all_scalars, chars, encode_utf8_all}
use lib.Utf8.{scalar}
use Rattle.std.specs.Str.Parse.{IsNumeral}
use Rattle.std.proofs.Math.Nat.{le-max_left, le-max_right}
use Rattle.std.proofs.lemmas.Bool.{ltb-true}
use Rattle.std.proofs.lemmas.Fmt.{decimal_is_IsNumeral}
use Rattle.std.proofs.lemmas.Str.{chars-encodes}
use Rattle.like_patterns.specs.declared.case.Case.{Case}
use Rattle.like_patterns.specs.declared.case.Case.TheVariants.{Sensitive, Insensitive}
use Rattle.like_patterns.specs.Patterns.{Part, literal, any_string}
use Rattle.like_patterns.specs.Pieces.{literals}
use Rattle.like_patterns.specs.Texts.{has_special, part_text, pattern_of, pattern_text}
use Rattle.like_patterns.specs.Laws.{PlainTextsComeBack, TextsComeBack}
use Rattle.vortex_dtype.specs.TypeTree.{TypeTree, bool_type, integer_type, utf8_type, binary_type, extension_type}
use Rattle.vortex_dtype.specs.declared.nullability.Nullability.{Nullability}
use Rattle.vortex_dtype.specs.declared.nullability.Nullability.TheVariants.{NonNullable}
use Rattle.vortex_dtype.specs.declared.ptype.PType.{PType}
use Rattle.vortex_dtype.specs.declared.ptype.PType.TheVariants.{U8, U16, U32, U64, I8, I16, I32, I64}
use Rattle.vortex_pvalue.specs.Numbers.{InRange, in_range}
use Rattle.vortex_pvalue.specs.RangeLaws.{in_range_true}
use Rattle.vortex_cells.specs.Cells.{Cell}
use Rattle.vortex_value.specs.Values.Content.{Content, null}
use Rattle.logical_scalars.specs.Stored.{IsOfLogicalType, storage_tree}
use Rattle.logical_scalars.specs.TypeShapes.{shape_in}
use Rattle.logical_types.specs.Decimals.{decimal_text}
use Rattle.logical_types.specs.Extensions.{storage_type_of}
use Rattle.logical_types.specs.Places.{fine_scale, number_at}
use Rattle.logical_types.specs.Shapes.{Shape, at_value_or, days, decimals, float32, float64, place_at, place_in, shape_of, storage_in, times, timestamps}
use Rattle.logical_types.specs.Words.{Writes}
use Rattle.logical_types.specs.declared.decimals.places.DecimalPlace.TheVariants as places
use Rattle.logical_types.specs.declared.extensions.StorageType.{StorageType}
use Rattle.logical_types.specs.declared.extensions.StorageType.TheVariants.{I32 as Four, I64 as Eight, Bytes as Sixteen}
use Rattle.logical_types.specs.declared.logical.LogicalType.{LogicalType}
use Rattle.logical_types.specs.declared.logical.LogicalType.TheVariants.{Float64, Float32, Decimal, Date, Time, Timestamp}
use Rattle.filter_sql.specs.declared.print.Level.{Level}
use Rattle.filter_sql.specs.declared.print.Level.TheVariants as levels
use Rattle.filter_sql.specs.declared.token.Keyword.TheVariants as keywords
use Rattle.vortex_filter.specs.declared.truth.Truth.TheVariants as truths
use Rattle.filter_sql.specs.ColumnNames.{ColumnTree}
use Rattle.vortex_filter.specs.Formula.{Formula, constant, comparison, null_test, membership, range, prefix_test, pattern_test, both, either, negation}
use Rattle.filter_sql.specs.Grammar.{AreLiterals, one_literal, more_literals, IsTest, in_nothing, in_literals, between_literals, IsEscape, unescaped, escaped_by, like_pattern, ilike_pattern, IsCondition, compares, is_null, is_not_null, bare_test, not_test, IsPredicate, says_true, says_false, says_null, on_column, prefix_call, IsFilter, predicate, group, not_filter, one_operand, and_filter, one_conjunction, or_filter}
use Rattle.vortex_filter.specs.CheckSteps.{holds_strings}
use Rattle.vortex_filter.specs.Literals.{LiteralTree, decimal_at, integer_at, integer_in, logical_cell, number_of_shape, null_literal, truth_literal, number_literal, text_literal, bytes_literal, null_cell, truth_cell, number_cell, option_or, text_cell, bytes_cell, position_of, storage_content, text_of_shape}
use Rattle.vortex_filter.specs.Positions.{PositionTree, exactly, lacking, cells_of, comparison_of, member_among, member_of}
use Rattle.filter_sql.specs.Literals.{Condition, compared, missing, listed, between, alike, denied, formula_in, literal_of, positions_of, prefix_or}
use Rattle.filter_sql.specs.Parsing.{IsValueLiteral, IsLiteral, IsFound, IsMoreThanPrefix, IsReadable, depth, depth_at}
use Rattle.vortex_filter.specs.LogicalValues.{IsLogicalValue}
use Rattle.filter_sql.specs.Lexing.{is_number}
use Rattle.filter_sql.specs.LiteralWords.{AreWordsOf, AreWordsOfEach, IsWordOf, LiteralWords, WordTree, WritesCell, bare_word, first_word, is_numeric, quoted_word, words_behind}
use Rattle.filter_sql.specs.Printing.{column_token, integer_text, literal_token, literal_tokens, escape_tokens, is_special, pattern_tokens, prefix_pattern, prefix_tokens, starts_with_tokens, tokens_at, tokens_of}
use Rattle.filter_sql.specs.Tokens.{TokenTree, IsNumber, IsToken, AreTokens, keyword_token, string_token, opening, closing, comma}
use Rattle.filter_sql.proofs.ConditionSteps.{begun_says, between_says, stand_more}
use Rattle.filter_sql.proofs.Again.{both_true}
use Rattle.filter_sql.proofs.Taken.{whole_number}
use Rattle.filter_sql.proofs.Characters.{backslash_text, prefix_text, special_characters}
use Rattle.filter_sql.proofs.TestSteps.{prefix_is}
use Rattle.filter_sql.proofs.WordLaws.{shape_at}
use Rattle.vortex_filter.proofs.LiteralTypes.{TypesSay, storage_is}

tokens_append : (ts us : List TokenTree) → AreTokens ts → AreTokens us → AreTokens (ts ++ us)
tokens_append [] us a b = b
tokens_append (t ∷ ts) us a b = (a.0, tokens_append ts us a.1 b)

-- ---- literals

-- the token of a literal, by its word if it has one, is one that stands there
record Said (t : TypeTree) (w : Option WordTree) (x : Cell) : Type 0 where
  literal : LiteralTree
  says : literal_of (literal_token w x) ≡ Some literal
  stands : position_of t literal ≡ Some (exactly x)
  token : IsToken (literal_token w x)

passed_small : (k : PType) (n : ℕ) → in_range k (pos n) ≡ true → n < 2 ^ 64
passed_small U8 n h = let small : n < 2 ^ 8 = ltb-true n (2 ^ 8) h in omega arith
passed_small U16 n h = let small : n < 2 ^ 16 = ltb-true n (2 ^ 16) h in omega arith
passed_small U32 n h = let small : n < 2 ^ 32 = ltb-true n (2 ^ 32) h in omega arith
passed_small U64 n h = ltb-true n (2 ^ 64) h
passed_small I8 n h = let small : n < 2 ^ 7 = ltb-true n (2 ^ 7) h in omega arith
passed_small I16 n h = let small : n < 2 ^ 15 = ltb-true n (2 ^ 15) h in omega arith
passed_small I32 n h = let small : n < 2 ^ 31 = ltb-true n (2 ^ 31) h in omega arith
passed_small I64 n h = let small : n < 2 ^ 63 = ltb-true n (2 ^ 63) h in omega arith

passed_negative : (k : PType) (n : ℕ) → in_range k (negsuc n) ≡ true → suc n < 2 ^ 64
passed_negative U8 n h = absurd cc
passed_negative U16 n h = absurd cc
passed_negative U32 n h = absurd cc
passed_negative U64 n h = absurd cc
passed_negative I8 n h = let small : n < 2 ^ 7 = ltb-true n (2 ^ 7) h in omega arith
passed_negative I16 n h = let small : n < 2 ^ 15 = ltb-true n (2 ^ 15) h in omega arith
passed_negative I32 n h = let small : n < 2 ^ 31 = ltb-true n (2 ^ 31) h in omega arith
passed_negative I64 n h = let small : n < 2 ^ 63 = ltb-true n (2 ^ 63) h in omega arith

-- what is printed of an integer lies at it
abbrev pub IntegersThere : Type 0
IntegersThere = (z : ℤ) → unsigned_abs z < 10 ^ 38 → place_in 38 0 (decimal_text 0 z) ≡ Some (places.At z)

text_is : (z : ℤ) → integer_text z ≡ decimal_text 0 z
text_is (pos m) = sym (append-nil (decimal m))
text_is (negsuc m) = ap (λ (l : List ℕ). 45 ∷ l) (sym (append-nil (decimal (suc m))))

numeral_of : (m : ℕ) → m < 2 ^ 64 → IsNumeral 10 (decimal m)
numeral_of m small = (decimal_is_IsNumeral m small).0

digits_are_number : (z : ℤ) → unsigned_abs z < 2 ^ 64 → IsNumber (integer_text z)
digits_are_number (pos m) small = record { negative = false; whole = decimal m; fraction = None; power = None; text = sym (append-nil (decimal m)); digits = numeral_of m small; places = tt; raised = tt }
digits_are_number (negsuc m) small =
    record { negative = true; whole = decimal (suc m); fraction = None; power = None; text = ap (λ (l : List ℕ). 45 ∷ l) (sym (append-nil (decimal (suc m)))); digits = numeral_of (suc m) small; places = tt; raised = tt }

integer_small : (k : PType) (z : ℤ) → in_range k z ≡ true → unsigned_abs z < 2 ^ 64
integer_small k (pos m) h = passed_small k m h
integer_small k (negsuc m) h = passed_negative k m h

integer_there : IntegersThere → (k : PType) (z : ℤ) → in_range k z ≡ true → integer_in k (integer_text z) ≡ Some (exactly (number_cell k z))
integer_there there k z h =
    let small : unsigned_abs z < 2 ^ 64 = integer_small k z h in
    ap (integer_in k) (text_is z) ∙ ap (option_map (integer_at k)) (there z (omega (arith, small))) ∙ ap (λ (b : Bool). Some (cond b (exactly (number_cell k z)) (lacking (int_cmp (pos 0) z)))) h

number_printed : IntegersThere → (k : PType) (z : ℤ) (n : _) → InRange k z → Said (integer_type k n) None (number_cell k z)
unfolding literal_of
number_printed there k z n inside =
    let h = in_range_true k z inside in
    record { literal = number_literal (integer_text z); says = refl; stands = integer_there there k z h; token = digits_are_number z (integer_small k z h) }

-- ---- values of logical types

-- what the law of words says
abbrev pub WordsSay : Type 0
WordsSay = (l : LogicalType) (word : List ℕ) (z : ℤ) → (storage_in (shape_of l) word ≡ Some z) ↔ Writes l word z

placed_at : (p s : ℕ) (word : List ℕ) (z : ℤ) → storage_in (decimals p s) word ≡ Some z → place_in p s word ≡ Some (places.At z)
unfolding storage_in place_in
placed_at p s word z e =
    ap (λ (v : Option ℤ). at_value_or v (option_map (place_at (10 ^ p) (10 ^ (fine_scale s word - s))) (number_at (fine_scale s word) word))) e

-- a word of a number, and any word in quotes, stands at the value that it writes
number_stands : (t : TypeTree) (l : LogicalType) (word : List ℕ) (z : ℤ) → is_numeric l ≡ true → storage_in (shape_of l) word ≡ Some z → number_of_shape t (shape_of l) word ≡ Some (exactly (logical_cell t (shape_of l) z))
number_stands t Float64 word z numeric e = ap (option_map (λ (y : ℤ). exactly (logical_cell t float64 y))) e
number_stands t Float32 word z numeric e = ap (option_map (λ (y : ℤ). exactly (logical_cell t float32 y))) e
number_stands t (Decimal d) word z numeric e = ap (option_map (decimal_at t (decimals d.precision d.scale))) (placed_at d.precision d.scale word z e)
number_stands t Date word z numeric e = let no : false ≡ true = numeric in absurd cc
number_stands t (Time unit) word z numeric e = let no : false ≡ true = numeric in absurd cc
number_stands t (Timestamp unit zoned) word z numeric e = let no : false ≡ true = numeric in absurd cc

text_stands : (t : TypeTree) (l : LogicalType) (word : List ℕ) (z : ℤ) → storage_in (shape_of l) word ≡ Some z → text_of_shape t (shape_of l) word ≡ Some (exactly (logical_cell t (shape_of l) z))
text_stands t Float64 word z e = number_stands t Float64 word z refl e
text_stands t Float32 word z e = number_stands t Float32 word z refl e
text_stands t (Decimal d) word z e = number_stands t (Decimal d) word z refl e
text_stands t Date word z e = ap (option_map (λ (y : ℤ). exactly (logical_cell t days y))) e
text_stands t (Time unit) word z e = ap (option_map (λ (y : ℤ). exactly (logical_cell t (times unit) y))) e
text_stands t (Timestamp unit false) word z e = ap (option_map (λ (y : ℤ). exactly (logical_cell t (timestamps unit false) y))) e
text_stands t (Timestamp unit true) word z e =
    ap (λ (o : Option ℤ). option_map (λ (y : ℤ). exactly (logical_cell t (timestamps unit true) y)) (option_or o (storage_in (timestamps unit false) word))) e

same_cell : (x y : Cell) → x.typed ≡ y.typed → x.content ≡ y.content → x ≡ y
same_cell x y e f =
    let made : TypeTree → Content → Cell = λ t c. record { typed = t; content = c } in
    ap (λ (t : TypeTree). made t x.content) e ∙ ap (made y.typed) f

value_cell : (t : TypeTree) (l : LogicalType) (z : ℤ) (x : Cell) → x.typed ≡ t → IsLogicalValue l z x → logical_cell t (shape_of l) z ≡ x
value_cell t l z x same is = sym (same_cell x (logical_cell t (shape_of l) z) same (is.stored ∙ ap (λ (k : StorageType). storage_content k z) (storage_is l)))

-- the word of a value stands at it in a column of its type
module _ (types : TypesSay) (words : WordsSay) (id metadata : List ℕ) (u : TypeTree) (x : Cell) (same : x.typed ≡ extension_type id metadata u) where
  abbrev Typed : TypeTree
  Typed = extension_type id metadata u

  shape_there : (l : LogicalType) (z : ℤ) → IsLogicalValue l z x → shape_in Typed ≡ Some (shape_of l)
  shape_there l z is = shape_at types Typed l (subst (λ (t : TypeTree). IsOfLogicalType t l) same is.typed)

  bare_said : (l : LogicalType) (z : ℤ) (word : List ℕ) → IsLogicalValue l z x → Writes l word z → is_numeric l ≡ true → is_number word ≡ true → Said Typed (Some (bare_word word)) x
  unfolding literal_of
  bare_said l z word is writes numeric number = record {
    literal = number_literal word;
    says = refl;
    stands = ap (option_and_then (λ (s : Shape). number_of_shape Typed s word)) (shape_there l z is)
        ∙ number_stands Typed l word z numeric ((words l word z).1 writes) ∙ ap (λ (y : Cell). Some (exactly y)) (value_cell Typed l z x same is);
    token = whole_number word number;
  }

  quoted_said : (l : LogicalType) (z : ℤ) (word : List ℕ) → IsLogicalValue l z x → Writes l word z → Said Typed (Some (quoted_word word)) x
  unfolding literal_of
  quoted_said l z word is writes = record {
    literal = text_literal word;
    says = refl;
    stands = ap (option_and_then (λ (s : Shape). text_of_shape Typed s word)) (shape_there l z is)
        ∙ text_stands Typed l word z ((words l word z).1 writes) ∙ ap (λ (y : Cell). Some (exactly y)) (value_cell Typed l z x same is);
    token = tt;
  }

  word_said : (w : WordTree) → WritesCell w x → Said Typed (Some w) x
  word_said w h = subst (λ (v : WordTree). Said Typed (Some v) x) (sym h.printed) (by_test (is_numeric h.logical && is_number h.word) refl)
    where
      by_test : (b : Bool) → (is_numeric h.logical && is_number h.word) ≡ b → Said Typed (Some (cond b (bare_word h.word) (quoted_word h.word))) x
      by_test true e = let p = both_true (is_numeric h.logical) (is_number h.word) e in bare_said h.logical h.storage h.word h.is h.writes p.0 p.1
      by_test false e = quoted_said h.logical h.storage h.word h.is h.writes

  value_said : (w : Option WordTree) → IsWordOf w x → (l : LogicalType) (z : ℤ) → IsLogicalValue l z x → Said Typed w x
  value_said (Some w) h l z is = word_said w h
  value_said None h l z is = absurd (h l z is)

-- ---- literals of other types have no word

truth_has_none : (b : Bool) → IsWordOf None (truth_cell b)
truth_has_none b = λ l z is. let e : bool_type NonNullable ≡ extension_type is.typed.id is.typed.metadata (storage_tree is.typed.kind is.typed.nullability) = is.typed.typed in absurd cc

number_has_none : (k : PType) (n : ℤ) → IsWordOf None (number_cell k n)
number_has_none k n = λ l z is. let e : integer_type k NonNullable ≡ extension_type is.typed.id is.typed.metadata (storage_tree is.typed.kind is.typed.nullability) = is.typed.typed in absurd cc

text_has_none : (bs : List ℕ) → IsWordOf None (text_cell bs)
text_has_none bs = λ l z is. let e : utf8_type NonNullable ≡ extension_type is.typed.id is.typed.metadata (storage_tree is.typed.kind is.typed.nullability) = is.typed.typed in absurd cc

bytes_have_none : (bs : List ℕ) → IsWordOf None (bytes_cell bs)
bytes_have_none bs = λ l z is. let e : binary_type NonNullable ≡ extension_type is.typed.id is.typed.metadata (storage_tree is.typed.kind is.typed.nullability) = is.typed.typed in absurd cc

no_null : (k : StorageType) (z : ℤ) → null ≡ storage_content k z → ⊥
no_null Four z e = absurd cc
no_null Eight z e = absurd cc
no_null Sixteen z e = absurd cc

null_has_none : (t : TypeTree) → IsWordOf None (null_cell t)
null_has_none t = λ l z is. no_null (storage_type_of l) z is.stored

-- a cell without a word is printed without one
said_of : (t : TypeTree) (w : Option WordTree) (x y : Cell) → x ≡ y → IsWordOf w x → IsWordOf None y → Said t None y → Said t w x
said_of t None x y same h none said = subst (λ (z : Cell). Said t None z) (sym same) said
said_of t (Some w) x y same h none said = absurd (none h.logical h.storage (subst (λ (z : Cell). IsLogicalValue h.logical h.storage z) same h.is))

-- where digits are read as their integer, words of logical types as their value, and texts of patterns as their pattern
pub record LiteralLaws : Type 0 where
  pub integers : IntegersThere
  pub types : TypesSay
  pub words : WordsSay
  pub escaped : TextsComeBack
  pub plain : PlainTextsComeBack

module _ (laws : LiteralLaws) where
  truth_printed : (b : Bool) (n : _) → Said (bool_type n) None (truth_cell b)
  unfolding literal_of
  truth_printed true n = record { literal = truth_literal true; says = refl; stands = refl; token = tt }
  truth_printed false n = record { literal = truth_literal false; says = refl; stands = refl; token = tt }

  null_printed : (t : TypeTree) → Said t None (null_cell t)
  unfolding literal_of
  null_printed t = record { literal = null_literal; says = refl; stands = refl; token = tt }

  text_printed : (bs : List ℕ) (n : _) → Said (utf8_type n) None (text_cell bs)
  unfolding literal_of
  text_printed bs n = record { literal = text_literal bs; says = refl; stands = refl; token = tt }

  bytes_printed : (bs : List ℕ) (n : _) → AllByRecursion (λ b. b < 256) bs → Said (binary_type n) None (bytes_cell bs)
  unfolding literal_of
  bytes_printed bs n small = record { literal = bytes_literal bs; says = refl; stands = refl; token = small }

  value_printed : (t : TypeTree) (w : Option WordTree) (x : Cell) → IsWordOf w x → IsValueLiteral t x → Said t w x
  value_printed (bool_type n) w x h v = said_of (bool_type n) w x (truth_cell v.0) v.1 h (truth_has_none v.0) (truth_printed v.0 n)
  value_printed (integer_type k n) w x h v = said_of (integer_type k n) w x (number_cell k v.0) v.2 h (number_has_none k v.0) (number_printed laws.integers k v.0 n v.1)
  value_printed (utf8_type n) w x h v = said_of (utf8_type n) w x (text_cell v.0) v.2 h (text_has_none v.0) (text_printed v.0 n)
  value_printed (binary_type n) w x h v = said_of (binary_type n) w x (bytes_cell v.0) v.2 h (bytes_have_none v.0) (bytes_printed v.0 n v.1)
  value_printed (extension_type id metadata u) w x h v = value_said laws.types laws.words id metadata u x v.0 w h v.1 v.2 v.3
  value_printed _ w x h v = absurd v

  literal_printed : (t : TypeTree) (w : Option WordTree) (x : Cell) → IsWordOf w x → IsLiteral t x → Said t w x
  literal_printed t w x h (inl same) = said_of t w x (null_cell t) same h (null_has_none t) (null_printed t)
  literal_printed t w x h (inr v) = value_printed t w x h v

  -- ---- literals in parentheses

  abbrev exactlies : List Cell → List PositionTree
  exactlies [] = []
  exactlies (x ∷ xs) = exactly x ∷ exactlies xs

  cells_back : (xs : List Cell) → cells_of (exactlies xs) ≡ xs
  cells_back [] = refl
  cells_back (x ∷ xs) = ap (λ (ys : List Cell). x ∷ ys) (cells_back xs)

  -- the tokens of cells are literals that stand there
  record SaidList (t : TypeTree) (ws : LiteralWords) (xs : List Cell) : Type 0 where
    literals : List LiteralTree
    are : AreLiterals (literal_tokens ws xs) literals
    stand : positions_of t literals ≡ Some (exactlies xs)

  literals_printed : (t : TypeTree) (ws : LiteralWords) (x : Cell) (xs : List Cell) → AreWordsOfEach ws (x ∷ xs) → AllByRecursion (IsLiteral t) (x ∷ xs) → SaidList t ws (x ∷ xs)
  literals_printed t ws x [] a h =
      let s = literal_printed t (first_word ws) x a.0 h.0 in
      record { literals = s.literal ∷ []; are = one_literal s.says; stand = stand_more t s.literal (exactly x) [] [] s.stands refl }
  literals_printed t ws x (y ∷ ys) a h =
      let s = literal_printed t (first_word ws) x a.0 h.0 in
      let more = literals_printed t (drop 1 ws) y ys a.1 h.1 in
      record { literals = s.literal ∷ more.literals; are = more_literals s.says more.are; stand = stand_more t s.literal (exactly x) more.literals (exactlies (y ∷ ys)) s.stands more.stand }

  literals_are_tokens : (t : TypeTree) (ws : LiteralWords) (xs : List Cell) → AreWordsOfEach ws xs → AllByRecursion (IsLiteral t) xs → AreTokens (literal_tokens ws xs)
  literals_are_tokens t ws [] a h = tt
  literals_are_tokens t ws (x ∷ []) a h = ((literal_printed t (first_word ws) x a.0 h.0).token, tt)
  literals_are_tokens t ws (x ∷ y ∷ ys) a h = ((literal_printed t (first_word ws) x a.0 h.0).token, (tt, literals_are_tokens t (drop 1 ws) (y ∷ ys) a.1 h.1))

  abbrev member_tokens : LiteralWords → List Cell → List TokenTree
  member_tokens ws xs = keyword_token keywords.In ∷ opening ∷ (literal_tokens ws xs ++ closing ∷ [])

  -- tokens that are a test of column k, of type t, with this formula
  record PrintedTest (k : ℕ) (t : TypeTree) (ts : List TokenTree) (f : Formula) : Type 0 where
    condition : Condition
    means : IsTest ts condition
    says : formula_in k t condition ≡ Some f

  members_printed : (k : ℕ) (t : TypeTree) (ws : LiteralWords) (xs : List Cell) → AreWordsOfEach ws xs → AllByRecursion (IsLiteral t) xs → PrintedTest k t (member_tokens ws xs) (membership k xs)
  members_printed k t ws [] a h = record { condition = listed []; means = in_nothing; says = refl }
  members_printed k t ws (x ∷ xs) a h =
      let said = literals_printed t ws x xs a h in
      record { condition = listed said.literals; means = in_literals said.are; says = ap (option_map (member_among k)) said.stand ∙ ap (λ (ys : List Cell). Some (member_of k ys)) (cells_back (x ∷ xs)) }

  range_printed : (k : ℕ) (t : TypeTree) (v w : Option WordTree) (x y : Cell) → Said t v x → Said t w y → PrintedTest k t (keyword_token keywords.Between ∷ literal_token v x ∷ keyword_token keywords.And ∷ literal_token w y ∷ []) (range k x y)
  range_printed k t v w x y low high = record {
    condition = between low.literal high.literal;
    means = between_literals low.says high.says;
    says = between_says k t low.literal high.literal (exactly x) (exactly y) low.stands high.stands;
  }

  members_are_tokens : (t : TypeTree) (ws : LiteralWords) (xs : List Cell) → AreWordsOfEach ws xs → AllByRecursion (IsLiteral t) xs → AreTokens (member_tokens ws xs)
  members_are_tokens t ws xs a h = (tt, (tt, tokens_append (literal_tokens ws xs) (closing ∷ []) (literals_are_tokens t ws xs a h) (tt, tt)))

  -- ---- prefixes and patterns

  -- the escape that is printed
  abbrev escape_of : Bool → Option ℕ
  escape_of true = Some 92
  escape_of false = None

  escape_means : (special : Bool) → IsEscape (escape_tokens special) (escape_of special)
  escape_means true = escaped_by (ap chars (sym backslash_text) ∙ chars-encodes (92 ∷ []) refl)
  escape_means false = unescaped

  escape_are_tokens : (special : Bool) → AreTokens (escape_tokens special)
  escape_are_tokens true = (tt, (tt, tt))
  escape_are_tokens false = tt

  -- a pattern's text spells it again
  pattern_back : (special : Bool) (parts : List Part) → has_special parts ≡ special → all_scalars (pattern_text parts) ≡ true → pattern_of (escape_of special) (chars (encode_utf8_all (pattern_text parts))) ≡ Some parts
  pattern_back true parts is scalars = ap (pattern_of (Some 92)) (chars-encodes (pattern_text parts) scalars) ∙ laws.escaped parts
  pattern_back false parts is scalars = ap (pattern_of None) (chars-encodes (pattern_text parts) scalars) ∙ laws.plain parts is

  pattern_are_tokens : (case : Case) (parts : List Part) → AreTokens (pattern_tokens case parts)
  pattern_are_tokens case parts = (tt, (tt, escape_are_tokens (has_special parts)))

  pattern_printed : (k : ℕ) (n : Nullability) (case : Case) (parts : List Part) → IsMoreThanPrefix case parts → PrintedTest k (utf8_type n) (pattern_tokens case parts) (pattern_test k case parts)
  pattern_printed k n Sensitive parts more = record {
    condition = alike Sensitive parts;
    means = like_pattern (escape_means (has_special parts)) (pattern_back (has_special parts) parts refl more.scalars);
    says = ap (λ (o : Option (List ℕ)). Some (prefix_or k o (pattern_test k Sensitive parts))) more.no_prefix;
  }
  pattern_printed k n Insensitive parts more = record {
    condition = alike Insensitive parts;
    means = ilike_pattern (escape_means (has_special parts)) (pattern_back (has_special parts) parts refl more.scalars);
    says = refl;
  }

  -- the pattern of a prefix
  abbrev prefix_parts : List ℕ → List Part
  prefix_parts cs = literals cs ++ any_string ∷ []

  scalars_append : (cs ds : List ℕ) → all_scalars cs ≡ true → all_scalars ds ≡ true → all_scalars (cs ++ ds) ≡ true
  scalars_append [] ds a b = b
  scalars_append (c ∷ cs) ds a b = let p = both_true (scalar c) (all_scalars cs) a in rw (p.0, scalars_append cs ds p.1 b) refl

  part_scalars : (c : ℕ) (special : Bool) → scalar c ≡ true → all_scalars (cond special (92 ∷ c ∷ []) (c ∷ [])) ≡ true
  part_scalars c true is = rw is refl
  part_scalars c false is = rw is refl

  prefix_scalars : (cs : List ℕ) → all_scalars cs ≡ true → all_scalars (pattern_text (prefix_parts cs)) ≡ true
  prefix_scalars [] is = refl
  prefix_scalars (c ∷ cs) is =
      let p = both_true (scalar c) (all_scalars cs) is in
      scalars_append (part_text (literal c)) (pattern_text (prefix_parts cs)) (part_scalars c (is_special c) p.0) (prefix_scalars cs p.1)

  -- a string's bytes have something special if its characters do
  special_is : (bs : List ℕ) (utf8 : IsUtf8 bs) → has_special (prefix_parts utf8.0) ≡ list_any is_special bs
  special_is bs utf8 = sym (special_characters utf8.0) ∙ ap (list_any is_special) utf8.1.1

  prefix_back : (special : Bool) (bs : List ℕ) (utf8 : IsUtf8 bs) → list_any is_special bs ≡ special → pattern_of (escape_of special) (chars (prefix_pattern bs)) ≡ Some (prefix_parts utf8.0)
  prefix_back special bs utf8 is =
      let text : prefix_pattern bs ≡ encode_utf8_all (pattern_text (prefix_parts utf8.0)) = ap prefix_pattern (sym utf8.1.1) ∙ prefix_text utf8.0 in
      ap (λ (l : List ℕ). pattern_of (escape_of special) (chars l)) text ∙ pattern_back special (prefix_parts utf8.0) (special_is bs utf8 ∙ is) (prefix_scalars utf8.0 utf8.1.0)

  abbrev like_with : Bool → List ℕ → List TokenTree
  like_with special bs = keyword_token keywords.Like ∷ string_token (prefix_pattern bs) ∷ escape_tokens special

  like_by : (k : ℕ) (n : _) (bs : List ℕ) (special : Bool) → list_any is_special bs ≡ special → IsUtf8 bs → PrintedTest k (utf8_type n) (like_with special bs) (prefix_test k (text_cell bs))
  like_by k n bs special is utf8 = record {
    condition = alike Sensitive (prefix_parts utf8.0);
    means = like_pattern (escape_means special) (prefix_back special bs utf8 is);
    says = ap (λ (o : Option (List ℕ)). Some (prefix_or k o (pattern_test k Sensitive (prefix_parts utf8.0)))) (prefix_is (prefix_parts utf8.0) utf8.0 refl)
        ∙ ap (λ (l : List ℕ). Some (prefix_test k (text_cell l))) utf8.1.1;
  }

  like_are_tokens : (special : Bool) (bs : List ℕ) → AreTokens (like_with special bs)
  like_are_tokens special bs = (tt, (tt, escape_are_tokens special))

  -- ---- predicates

  module _ (columns : List ColumnTree) (names : List (List ℕ)) where
    -- tokens that are a predicate with this formula
    record PrintedPredicate (ts : List TokenTree) (f : Formula) : Type 0 where
      means : IsPredicate columns ts f
      tokens : AreTokens ts

    call_printed : (k : ℕ) (t : TypeTree) (w : Option WordTree) (x : Cell) → IsFound columns names k t → holds_strings t ≡ true → Said t w x → PrintedPredicate (keyword_token keywords.StartsWith ∷ opening ∷ column_token names k ∷ comma ∷ literal_token w x ∷ closing ∷ []) (prefix_test k x)
    call_printed k t w x found strings said = record { means = prefix_call found said.says (begun_says k t said.literal (exactly x) (prefix_test k x) strings said.stands refl); tokens = (tt, (tt, (tt, (tt, (said.token, (tt, tt)))))) }

    abbrev PrintedPrefix : ℕ → Option WordTree → Cell → Type 0
    PrintedPrefix k w x = PrintedPredicate (prefix_tokens (column_token names k) (literal_token w x) x.content) (prefix_test k x)

    like_printed : (k : ℕ) (n : _) (w : Option WordTree) (bs : List ℕ) → IsFound columns names k (utf8_type n) → IsUtf8 bs → PrintedPrefix k w (text_cell bs)
    like_printed k n w bs found utf8 = let test = like_by k n bs (list_any is_special bs) refl utf8 in record { means = on_column found (bare_test test.means) test.says; tokens = (tt, like_are_tokens (list_any is_special bs) bs) }

    prefix_at : (k : ℕ) (w : Option WordTree) (x y : Cell) → x ≡ y → PrintedPrefix k w y → PrintedPrefix k w x
    prefix_at k w x y same printed = subst (λ (z : Cell). PrintedPrefix k w z) (sym same) printed

    -- by its token
    called : (k : ℕ) (t : TypeTree) (w : Option WordTree) (x y : Cell) → IsFound columns names k t → holds_strings t ≡ true → x ≡ y → prefix_tokens (column_token names k) (literal_token w y) y.content ≡ starts_with_tokens (column_token names k) (literal_token w y)
        → Said t w x → PrintedPrefix k w x
    called k t w x y found strings same tokens said =
        prefix_at k w x y same (subst (λ (ts : List TokenTree). PrintedPredicate ts (prefix_test k y)) (sym tokens) (call_printed k t w y found strings (subst (λ (z : Cell). Said t w z) same said)))

    value_prefix : (k : ℕ) (t : TypeTree) (w : Option WordTree) (x : Cell) → IsFound columns names k t → holds_strings t ≡ true → IsWordOf w x → IsValueLiteral t x → PrintedPrefix k w x
    value_prefix k (utf8_type n) w x found strings h v = prefix_at k w x (text_cell v.0) v.2 (like_printed k n w v.0 found v.1)
    value_prefix k (binary_type n) w x found strings h v = called k (binary_type n) w x (bytes_cell v.0) found strings v.2 refl (value_printed (binary_type n) w x h v)
    value_prefix k _ w x found strings h v = absurd cc

    prefix_printed : (k : ℕ) (t : TypeTree) (w : Option WordTree) (x : Cell) → IsFound columns names k t → holds_strings t ≡ true → IsWordOf w x → IsLiteral t x → PrintedPrefix k w x
    prefix_printed k t w x found strings h (inl same) = called k t w x (null_cell t) found strings same refl (literal_printed t w x h (inl same))
    prefix_printed k t w x found strings h (inr v) = value_prefix k t w x found strings h v

    -- ---- filters

    record Printed (l : Level) (n : ℕ) (ts : List TokenTree) (f : Formula) : Type 0 where
      means : IsFilter columns l n ts f
      tokens : AreTokens ts

    lifted : (l : Level) (n : ℕ) (ts : List TokenTree) (f : Formula) → Printed levels.Not n ts f → Printed l n ts f
    lifted levels.Or n ts f p = record { means = one_conjunction (one_operand p.means); tokens = p.tokens }
    lifted levels.And n ts f p = record { means = one_operand p.means; tokens = p.tokens }
    lifted levels.Not n ts f p = p

    plain : (l : Level) (n : ℕ) (ts : List TokenTree) (f : Formula) → PrintedPredicate ts f → Printed l n ts f
    plain l n ts f p = lifted l n ts f (record { means = predicate p.means; tokens = p.tokens })

    conditional : (l : Level) (n k : ℕ) (t : TypeTree) (ts : List TokenTree) (c : Condition) (f : Formula) → IsFound columns names k t → IsCondition ts c → formula_in k t c ≡ Some f → AreTokens ts → Printed l n (column_token names k ∷ ts) f
    conditional l n k t ts c f found means says tokens = plain l n (column_token names k ∷ ts) f (record { means = on_column found means says; tokens = (tt, tokens) })

    tested : (l : Level) (n k : ℕ) (t : TypeTree) (ts : List TokenTree) (f : Formula) → IsFound columns names k t → PrintedTest k t ts f → AreTokens ts → Printed l n (column_token names k ∷ ts) f
    tested l n k t ts f found test tokens = conditional l n k t ts test.condition f found (bare_test test.means) test.says tokens

    denied_test : (l : Level) (n k : ℕ) (t : TypeTree) (ts : List TokenTree) (f : Formula) → IsFound columns names k t → PrintedTest k t ts f → AreTokens ts → Printed l n (column_token names k ∷ keyword_token keywords.Not ∷ ts) (negation f)
    denied_test l n k t ts f found test tokens = conditional l n k t (keyword_token keywords.Not ∷ ts) (denied test.condition) (negation f) found (not_test test.means) (ap (option_map negation) test.says) (tt, tokens)

    negated : (l : Level) (m : ℕ) (ts : List TokenTree) (f : Formula) → Printed levels.Not m ts f → Printed l (suc m) (keyword_token keywords.Not ∷ ts) (negation f)
    negated l m ts f p = lifted l (suc m) (keyword_token keywords.Not ∷ ts) (negation f) (record { means = not_filter p.means; tokens = (tt, p.tokens) })

    grouping : (m : ℕ) (ts : List TokenTree) (f : Formula) → Printed levels.Or m ts f → Printed levels.Not (suc m) (opening ∷ (ts ++ closing ∷ [])) f
    grouping m ts f p = record { means = group p.means; tokens = (tt, tokens_append ts (closing ∷ []) p.tokens (tt, tt)) }

    and_made : (m : ℕ) (ts us : List TokenTree) (f g : Formula) → Printed levels.Not (suc m) ts f → Printed levels.And m us g → Printed levels.And (suc m) (ts ++ keyword_token keywords.And ∷ us) (both f g)
    and_made m ts us f g p q = record { means = and_filter p.means q.means; tokens = tokens_append ts (keyword_token keywords.And ∷ us) p.tokens (tt, q.tokens) }

    or_made : (m : ℕ) (ts us : List TokenTree) (f g : Formula) → Printed levels.And (suc m) ts f → Printed levels.Or m us g → Printed levels.Or (suc m) (ts ++ keyword_token keywords.Or ∷ us) (either f g)
    or_made m ts us f g p q = record { means = or_filter p.means q.means; tokens = tokens_append ts (keyword_token keywords.Or ∷ us) p.tokens (tt, q.tokens) }

    widened : (n : ℕ) (ts : List TokenTree) (f : Formula) → Printed levels.And n ts f → Printed levels.Or n ts f
    widened n ts f p = record { means = one_conjunction p.means; tokens = p.tokens }

    moved : (l : Level) (m n : ℕ) (ts : List TokenTree) (f : Formula) → n ≡ m → Printed l m ts f → Printed l n ts f
    moved l m n ts f same p = subst (λ (k : ℕ). Printed l k ts f) (sym same) p

    abbrev At : LiteralWords → Level → ℕ → Formula → Type 0
    At ws l n f = Printed l n (tokens_at names ws l f) f

    -- two printed filters with `and`, and with `or`, between them
    abbrev conjoined : LiteralWords → Formula → Formula → List TokenTree
    conjoined ws f g = tokens_at names ws levels.Not f ++ (keyword_token keywords.And ∷ tokens_at names (words_behind f ws) levels.And g)

    abbrev disjoined : LiteralWords → Formula → Formula → List TokenTree
    disjoined ws f g = tokens_at names ws levels.And f ++ (keyword_token keywords.Or ∷ tokens_at names (words_behind f ws) levels.Or g)

    -- what a printed filter needs
    abbrev Prints : LiteralWords → Formula → Type 0
    Prints ws f = (l : Level) (n : ℕ) → depth_at l f ≤ n → At ws l n f

    less : (a b n : ℕ) → max (suc a) b ≤ n → (n ≡ suc (n - 1)) × (a ≤ n - 1) × (b ≤ suc (n - 1))
    less a b n h =
        let left : suc a ≤ max (suc a) b = le-max_left (suc a) b in
        let right : b ≤ max (suc a) b = le-max_right (suc a) b in
        (omega arith, omega arith, omega arith)

    and_bare : (ws : LiteralWords) (f g : Formula) → Prints ws f → Prints (words_behind f ws) g → (n : ℕ) → max (suc (depth_at levels.And g)) (depth_at levels.Not f) ≤ n → Printed levels.And n (conjoined ws f g) (both f g)
    and_bare ws f g p q n h =
        let parts = less (depth_at levels.And g) (depth_at levels.Not f) n h in
        moved levels.And (suc (n - 1)) n (conjoined ws f g) (both f g) parts.0
        (and_made (n - 1) (tokens_at names ws levels.Not f) (tokens_at names (words_behind f ws) levels.And g) f g (p levels.Not (suc (n - 1)) parts.2) (q levels.And (n - 1) parts.1))

    or_bare : (ws : LiteralWords) (f g : Formula) → Prints ws f → Prints (words_behind f ws) g → (n : ℕ) → max (suc (depth_at levels.Or g)) (depth_at levels.And f) ≤ n → Printed levels.Or n (disjoined ws f g) (either f g)
    or_bare ws f g p q n h =
        let parts = less (depth_at levels.Or g) (depth_at levels.And f) n h in
        moved levels.Or (suc (n - 1)) n (disjoined ws f g) (either f g) parts.0
        (or_made (n - 1) (tokens_at names ws levels.And f) (tokens_at names (words_behind f ws) levels.Or g) f g (p levels.And (suc (n - 1)) parts.2) (q levels.Or (n - 1) parts.1))

    in_group : (d n : ℕ) → suc d ≤ n → (n ≡ suc (n - 1)) × (d ≤ n - 1)
    in_group d n h = (omega arith, omega arith)

    and_printed : (ws : LiteralWords) (f g : Formula) → Prints ws f → Prints (words_behind f ws) g → Prints ws (both f g)
    and_printed ws f g p q levels.Or n h = widened n (conjoined ws f g) (both f g) (and_bare ws f g p q n h)
    and_printed ws f g p q levels.And n h = and_bare ws f g p q n h
    and_printed ws f g p q levels.Not n h =
        let parts = in_group (max (suc (depth_at levels.And g)) (depth_at levels.Not f)) n h in
        moved levels.Not (suc (n - 1)) n (opening ∷ (conjoined ws f g ++ closing ∷ [])) (both f g) parts.0
        (grouping (n - 1) (conjoined ws f g) (both f g) (widened (n - 1) (conjoined ws f g) (both f g) (and_bare ws f g p q (n - 1) parts.1)))

    or_grouped : (ws : LiteralWords) (f g : Formula) → Prints ws f → Prints (words_behind f ws) g → (n : ℕ) → suc (max (suc (depth_at levels.Or g)) (depth_at levels.And f)) ≤ n → Printed levels.Not n (opening ∷ (disjoined ws f g ++ closing ∷ [])) (either f g)
    or_grouped ws f g p q n h =
        let parts = in_group (max (suc (depth_at levels.Or g)) (depth_at levels.And f)) n h in
        moved levels.Not (suc (n - 1)) n (opening ∷ (disjoined ws f g ++ closing ∷ [])) (either f g) parts.0
        (grouping (n - 1) (disjoined ws f g) (either f g) (or_bare ws f g p q (n - 1) parts.1))

    or_printed : (ws : LiteralWords) (f g : Formula) → Prints ws f → Prints (words_behind f ws) g → Prints ws (either f g)
    or_printed ws f g p q levels.Or n h = or_bare ws f g p q n h
    or_printed ws f g p q levels.And n h = lifted levels.And n (opening ∷ (disjoined ws f g ++ closing ∷ [])) (either f g) (or_grouped ws f g p q n h)
    or_printed ws f g p q levels.Not n h = or_grouped ws f g p q n h

    negation_printed : (ws : LiteralWords) (f : Formula) → Prints ws f → (l : Level) (n : ℕ) → suc (depth_at levels.Not f) ≤ n → Printed l n (keyword_token keywords.Not ∷ tokens_at names ws levels.Not f) (negation f)
    negation_printed ws f p l n h =
        let parts = in_group (depth_at levels.Not f) n h in
        moved l (suc (n - 1)) n (keyword_token keywords.Not ∷ tokens_at names ws levels.Not f) (negation f) parts.0
        (negated l (n - 1) (tokens_at names ws levels.Not f) f (p levels.Not (n - 1) parts.1))

    constant_printed : (ws : LiteralWords) (t : _) → Prints ws (constant t)
    constant_printed ws truths.True l n h = plain l n (keyword_token keywords.True ∷ []) (constant truths.True) (record { means = says_true; tokens = (tt, tt) })
    constant_printed ws truths.False l n h = plain l n (keyword_token keywords.False ∷ []) (constant truths.False) (record { means = says_false; tokens = (tt, tt) })
    constant_printed ws truths.Unknown l n h = plain l n (keyword_token keywords.Null ∷ []) (constant truths.Unknown) (record { means = says_null; tokens = (tt, tt) })

    -- a filter whose columns are found and whose literals are their types' is printed in the grammar, by words of its literals
    printed : (ws : LiteralWords) (f : Formula) → AreWordsOf ws f → IsReadable columns names f → Prints ws f
    printed ws (constant t) a r l n h = constant_printed ws t l n h
    printed ws (comparison k op x) a r l n h =
        let said = literal_printed r.0 (first_word ws) x a r.2 in
        conditional l n k r.0 _ (compared op said.literal) (comparison k op x) r.1 (compares said.says) (ap (option_map (comparison_of k op)) said.stands) (tt, (said.token, tt))
    printed ws (null_test k) a r l n h = conditional l n k r.0 _ missing (null_test k) r.1 is_null refl (tt, (tt, tt))
    printed ws (membership k xs) a r l n h = tested l n k r.0 (member_tokens ws xs) (membership k xs) r.1 (members_printed k r.0 ws xs a r.2) (members_are_tokens r.0 ws xs a r.2)
    printed ws (range k x y) a r l n h =
        let low = literal_printed r.0 (first_word ws) x a.0 r.2 in
        let high = literal_printed r.0 (first_word (drop 1 ws)) y a.1 r.3 in
        tested l n k r.0 _ (range k x y) r.1 (range_printed k r.0 (first_word ws) (first_word (drop 1 ws)) x y low high) (tt, (low.token, (tt, (high.token, tt))))
    printed ws (prefix_test k x) a r l n h = plain l n (prefix_tokens (column_token names k) (literal_token (first_word ws) x) x.content) (prefix_test k x) (prefix_printed k r.0 (first_word ws) x r.1 r.2 a r.3)
    printed ws (pattern_test k case parts) a r l n h = tested l n k (utf8_type r.0) (pattern_tokens case parts) (pattern_test k case parts) r.1 (pattern_printed k r.0 case parts r.2) (pattern_are_tokens case parts)
    printed ws (both f g) a r l n h = and_printed ws f g (printed ws f a.0 r.0) (printed (words_behind f ws) g a.1 r.1) l n h
    printed ws (either f g) a r l n h = or_printed ws f g (printed ws f a.0 r.0) (printed (words_behind f ws) g a.1 r.1) l n h
    printed ws (negation (null_test k)) a r l n h = conditional l n k r.0 _ (denied missing) (negation (null_test k)) r.1 is_not_null refl (tt, (tt, (tt, tt)))
    printed ws (negation (membership k xs)) a r l n h = denied_test l n k r.0 (member_tokens ws xs) (membership k xs) r.1 (members_printed k r.0 ws xs a r.2) (members_are_tokens r.0 ws xs a r.2)
    printed ws (negation (range k x y)) a r l n h =
        let low = literal_printed r.0 (first_word ws) x a.0 r.2 in
        let high = literal_printed r.0 (first_word (drop 1 ws)) y a.1 r.3 in
        denied_test l n k r.0 _ (range k x y) r.1 (range_printed k r.0 (first_word ws) (first_word (drop 1 ws)) x y low high) (tt, (low.token, (tt, (high.token, tt))))
    printed ws (negation (constant t)) a r l n h = negation_printed ws (constant t) (printed ws (constant t) a r) l n h
    printed ws (negation (comparison k op x)) a r l n h = negation_printed ws (comparison k op x) (printed ws (comparison k op x) a r) l n h
    printed ws (negation (prefix_test k x)) a r l n h = negation_printed ws (prefix_test k x) (printed ws (prefix_test k x) a r) l n h
    printed ws (negation (pattern_test k case parts)) a r l n h = negation_printed ws (pattern_test k case parts) (printed ws (pattern_test k case parts) a r) l n h
    printed ws (negation (both f g)) a r l n h = negation_printed ws (both f g) (printed ws (both f g) a r) l n h
    printed ws (negation (either f g)) a r l n h = negation_printed ws (either f g) (printed ws (either f g) a r) l n h
    printed ws (negation (negation f)) a r l n h = negation_printed ws (negation f) (printed ws (negation f) a r) l n h

    pub text_means : (ws : LiteralWords) (f : Formula) (n : ℕ) → AreWordsOf ws f → IsReadable columns names f → depth f ≤ n → IsFilter columns levels.Or n (tokens_of names ws f) f
    text_means ws f n a r h = (printed ws f a r levels.Or n h).means

    pub text_tokens : (ws : LiteralWords) (f : Formula) (n : ℕ) → AreWordsOf ws f → IsReadable columns names f → depth f ≤ n → AreTokens (tokens_of names ws f)
    text_tokens ws f n a r h = (printed ws f a r levels.Or n h).tokens
