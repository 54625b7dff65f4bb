-- How deep the encoding of a filter nests: a filter that words are has one, at the depth that goes with theirs.
use Rattle.std.proofs.Common.{◌≡◌, ◌∙◌, ℕ, suc, max, ◌^◌, ◌<◌, ◌≤◌, Bool, true, false, List, [], ◌∷◌, ◌++◌, length, Option, Some, None, IsUtf8, chars, encode_utf8_all, arith, ap, ap₂, refl, subst, sym, length-append, length-drop}
use Rattle.std.specs.Char.{is_ascii_whitespace}
use Rattle.std.specs.List.{AllByRecursion, prefix_len}
use Rattle.std.specs.Option.{option_map}
use Rattle.std.specs.Prelude.{option_and_then, slice_get}
use Rattle.std.proofs.lemmas.Bool.{false≢true}
use Rattle.std.proofs.lemmas.List.{length-map}
use Rattle.std.proofs.lemmas.Option.{slice_get-map, slice_get_within}
use Rattle.column_cells.specs.Types.{type_at}
use Rattle.like_patterns.specs.declared.case.Case.{Case}
use Rattle.like_patterns.specs.declared.case.Case.TheVariants.{Insensitive, Sensitive}
use Rattle.like_patterns.specs.Patterns.{Part}
use Rattle.like_patterns.specs.Texts.{pattern_of}
use Rattle.vortex_dtype.specs.Parts.{is_utf8_type}
use Rattle.vortex_dtype.specs.TypeTree.{TypeTree, utf8_type}
use Rattle.vortex_cells.specs.Cells.{Cell}
use Rattle.vortex_filter.specs.declared.operator.CompareOperator.{CompareOperator}
use Rattle.vortex_filter.specs.declared.operator.CompareOperator.TheVariants.{Eq, NotEq, Gt, Gte, Lt, Lte}
use Rattle.vortex_filter.specs.Formula.{Formula, both, comparison, constant, either, membership, negation, null_test, pattern_test, prefix_test, range}
use Rattle.vortex_filter.specs.CheckSteps.{holds_strings}
use Rattle.vortex_filter.specs.Literals.{LiteralTree, position_of, text_cell, text_literal}
use Rattle.vortex_filter.specs.Operators.{holds}
use Rattle.vortex_filter.specs.Positions.{cells_of, comparison_above, comparison_of, exactly, for_values, just_above, lacking, member_among, member_of, PositionTree, prefix_of, range_of}
use Rattle.filter_encoding.specs.Encoding.{CanBeWritten, IsPlain, IsPlainCell}
use Rattle.filter_encoding.specs.Laws.{height as encoded_height}
use Rattle.filter_encoding.specs.Lists.{AreListed, Fits}
use Rattle.filter_encoding.specs.Patterns.{IsPart}
use Rattle.filter_sql.specs.ColumnNames.{column_named, column_there, ColumnTree, named_place, or_numbered, typed_place}
use Rattle.filter_sql.specs.Grammar.{and_filter, AreLiterals, bare_test, between_literals, compares, group, in_literals, ilike_pattern, in_nothing, is_not_null, is_null, IsCondition, IsFilter, IsPredicate, IsTest, like_pattern, more_literals, not_filter, not_test, on_column, one_conjunction, one_literal, one_operand, or_filter, predicate, prefix_call, says_false, says_null, says_true}
use Rattle.filter_sql.specs.Literals.{alike, begun, Condition, formula_in, like_test, missing, positions_of, prefix_asked, prefix_or}
use Rattle.filter_sql.specs.Parsing.{IsSqlWithin, tokens_in, types_of}
use Rattle.filter_sql.specs.TextLaws.{height}
use Rattle.filter_sql.specs.Texts.{AreItemsOf, Item, Leads, trimmed}
use Rattle.filter_sql.specs.Tokens.{closing, comma, TokenTree}
use Rattle.filter_sql.proofs.ConditionSteps.{bind_some, guard_some, map_some, some_members, stand_parts}
use Rattle.filter_encoding.proofs.HeightLaws.{HasForm, nests}
use Rattle.filter_sql.proofs.NestLaws.{whole-low}
use Rattle.filter_sql.proofs.Runs.{front_again}
use Rattle.filter_sql.proofs.Taken.{token_shorter}
use Rattle.vortex_filter.proofs.LiteralTypes.{TypesSay, WordsSay}
use Rattle.vortex_c.proofs.KindTypes.{plain-column}
use Rattle.vortex_c.proofs.LogicalLiterals.{AreSaid, IsPlainSaid, plain-said}
use Rattle.vortex_c.proofs.TokenTexts.{IsStringIn, parts-read, strings-read}
use Rattle.vortex_c.specs.FilterSql.{encoding_depth, kind_of_named, prepared_of, tree_of_kind, trees_of_kinds, types_of_kinds}
use Rattle.vortex_c.specs.declared.sql.NamedKind.{NamedKind}

-- ---- how deep a formula nests

-- both crates count the same
same-height : (f : Formula) → encoded_height f ≡ height f
same-height (constant t) = refl
same-height (comparison k op x) = refl
same-height (null_test k) = refl
same-height (membership k xs) = refl
same-height (range k x y) = refl
same-height (prefix_test k x) = refl
same-height (pattern_test k case parts) = refl
same-height (both f g) = ap₂ (λ (m n : ℕ). suc (max m n)) (same-height f) (same-height g)
same-height (either f g) = ap₂ (λ (m n : ℕ). suc (max m n)) (same-height f) (same-height g)
same-height (negation f) = ap suc (same-height f)

-- ---- its tokens' strings

-- UTF-8 of fewer than 2^64 bytes
abbrev AreShort : ℕ → List TokenTree → Type 0
AreShort size ts = (size < 2 ^ 64) × AllByRecursion (IsStringIn size) ts

first-all : {X : Type 0} (P : X → Type 0) (xs ys : List X) → AllByRecursion P (xs ++ ys) → AllByRecursion P xs
first-all P [] ys h = tt
first-all P (x ∷ xs) ys h = (h.0, first-all P xs ys h.1)

rest-all : {X : Type 0} (P : X → Type 0) (xs ys : List X) → AllByRecursion P (xs ++ ys) → AllByRecursion P ys
rest-all P [] ys h = h
rest-all P (x ∷ xs) ys h = rest-all P xs ys h.1

-- ---- its literals

-- the cells of literals are of such types, and no more than there are tokens
record AreFew (ts : List TokenTree) (xs : List Cell) : Type 0 where
  plain : AllByRecursion IsPlainCell xs
  count : length xs ≤ length ts

one-more : (ts us : List TokenTree) (p : PositionTree) (ps : List PositionTree) → length ts < length us → IsPlainSaid p → AreFew ts (cells_of ps) → AreFew us (cells_of (p ∷ ps))
one-more ts us (exactly x) ps less said few = record { plain = (said, few.plain); count = omega (arith, less, few.count) }
one-more ts us (just_above x) ps less said few = record { plain = few.plain; count = omega (arith, less, few.count) }
one-more ts us (lacking o) ps less said few = record { plain = few.plain; count = omega (arith, less, few.count) }

none-few : (t : TypeTree) (ps : List PositionTree) → positions_of t [] ≡ Some ps → AreFew [] (cells_of ps)
none-few t ps e = let same : [] ≡ ps = cc in subst (λ (qs : List PositionTree). AreFew [] (cells_of qs)) same (record { plain = tt; count = omega arith })

literals-few : (t : TypeTree) {ts : List TokenTree} {ls : List LiteralTree} → AreSaid t → AreLiterals ts ls → (ps : List PositionTree) → positions_of t ls ≡ Some ps → AreFew ts (cells_of ps)
literals-few t h (one_literal {x} {l} said) ps e =
    let p = stand_parts t l [] ps e in
    subst (λ (qs : List PositionTree). AreFew (x ∷ []) (cells_of qs)) p.whole (one-more [] (x ∷ []) p.first p.others (omega arith) (h l p.first p.stands) (none-few t p.others p.stand))
literals-few t h (more_literals {x} {l} {ts} {ls} said more) ps e =
    let p = stand_parts t l ls ps e in
    subst (λ (qs : List PositionTree). AreFew (x ∷ comma ∷ ts) (cells_of qs)) p.whole (one-more ts (x ∷ comma ∷ ts) p.first p.others (omega arith) (h l p.first p.stands) (literals-few t h more p.others p.stand))

module _ (size k : ℕ) (t : TypeTree) (fits : Fits k) (stands : AreSaid t) where
  lacking-form : (b : Bool) → HasForm (for_values b k)
  lacking-form true = (fits, tt)
  lacking-form false = (fits, tt)

  above-form : (op : CompareOperator) (x : Cell) → IsPlainCell x → HasForm (comparison_above k op x)
  above-form Eq x said = lacking-form false
  above-form NotEq x said = lacking-form true
  above-form Gt x said = (fits, said)
  above-form Gte x said = (fits, said)
  above-form Lt x said = (fits, said)
  above-form Lte x said = (fits, said)

  comparison-form : (op : CompareOperator) (p : PositionTree) → IsPlainSaid p → HasForm (comparison_of k op p)
  comparison-form op (exactly x) said = (fits, said)
  comparison-form op (just_above x) said = above-form op x said
  comparison-form op (lacking o) said = lacking-form (holds op o)

  range-form : (lower upper : PositionTree) → IsPlainSaid lower → IsPlainSaid upper → HasForm (range_of k lower upper)
  range-form (exactly x) (exactly y) low high = (fits, (low, high))
  range-form (exactly x) (just_above y) low high = (comparison-form Gte (exactly x) low, comparison-form Lte (just_above y) high)
  range-form (exactly x) (lacking o) low high = (comparison-form Gte (exactly x) low, comparison-form Lte (lacking o) high)
  range-form (just_above x) (exactly y) low high = (comparison-form Gte (just_above x) low, comparison-form Lte (exactly y) high)
  range-form (just_above x) (just_above y) low high = (comparison-form Gte (just_above x) low, comparison-form Lte (just_above y) high)
  range-form (just_above x) (lacking o) low high = (comparison-form Gte (just_above x) low, comparison-form Lte (lacking o) high)
  range-form (lacking o) (exactly y) low high = (comparison-form Gte (lacking o) low, comparison-form Lte (exactly y) high)
  range-form (lacking o) (just_above y) low high = (comparison-form Gte (lacking o) low, comparison-form Lte (just_above y) high)
  range-form (lacking o) (lacking r) low high = (comparison-form Gte (lacking o) low, comparison-form Lte (lacking r) high)

  member-form : (xs : List Cell) → AllByRecursion IsPlainCell xs → length xs < 2 ^ 64 → HasForm (member_of k xs)
  member-form [] all few = (fits, tt)
  member-form (x ∷ xs) all few = (fits, record { fit = few; each = all })

  prefix-form : (p : PositionTree) (f : Formula) → IsPlainSaid p → prefix_of k p ≡ Some f → HasForm f
  prefix-form (exactly x) f said e = let same : prefix_test k x ≡ f = cc in subst HasForm same (fits, said)
  prefix-form (just_above x) f said e = absurd cc
  prefix-form (lacking o) f said e = absurd cc

  begun-form : (l : LiteralTree) (f : Formula) → formula_in k t (begun l) ≡ Some f → HasForm f
  begun-form l f e =
      let g = guard_some (holds_strings t) (option_and_then (prefix_of k) (position_of t l)) f e in
      let a = bind_some (position_of t l) (prefix_of k) f g.1 in
      prefix-form a.0 f (stands l a.0 a.1) a.2

  -- a string is a literal of the column, if that holds strings
  text-plain : (u : TypeTree) → is_utf8_type u ≡ true → AreSaid u → (bs : List ℕ) → IsPlainCell (text_cell bs)
  text-plain (utf8_type n) is said bs = said (text_literal bs) (exactly (text_cell bs)) refl
  text-plain _ is said bs = absurd (false≢true is)

  like-form : (case : Case) (parts : List Part) (f : Formula) → AreListed IsPart parts → formula_in k t (alike case parts) ≡ Some f → HasForm f
  like-form case parts f listed e =
      let g = guard_some (is_utf8_type t) (Some (like_test k case parts)) f e in
      let some : Some (like_test k case parts) ≡ Some f = g.1 in
      let same : like_test k case parts ≡ f = cc in
      subst HasForm same (by_prefix g.0 (prefix_asked case parts))
    where
      by_prefix : is_utf8_type t ≡ true → (o : Option (List ℕ)) → HasForm (prefix_or k o (pattern_test k case parts))
      by_prefix is None = (fits, (tt, listed))
      by_prefix is (Some cs) = (fits, text-plain t is stands (encode_utf8_all cs))

  parts-listed : (escape : Option ℕ) (pattern : List ℕ) (parts : List Part) → size < 2 ^ 64 → IsUtf8 pattern × (length pattern ≤ size) → pattern_of escape (chars pattern) ≡ Some parts → AreListed IsPart parts
  parts-listed escape pattern parts short is e =
      let read = parts-read escape pattern parts is.0 e in
      record { fit = omega (arith, short, is.1, read.1); each = read.0 }

  test-form : {ts : List TokenTree} {c : Condition} → length ts < 2 ^ 64 → AreShort size ts → IsTest ts c → (f : Formula) → formula_in k t c ≡ Some f → HasForm f
  test-form few short in_nothing f e =
      let m = map_some (positions_of t []) (member_among k) f e in
      let none : [] ≡ m.0 = cc in
      subst HasForm m.2 (subst (λ (ps : List PositionTree). HasForm (member_among k ps)) none (fits, record { fit = omega arith; each = tt }))
  test-form few short (in_literals {ts} {ls} l) f e =
      let m = map_some (positions_of t ls) (member_among k) f e in
      let each = literals-few t stands l m.0 m.1 in
      let form = member-form (cells_of m.0) each.plain (omega (arith, few, each.count, length-append ts (closing ∷ []))) in
      subst HasForm m.2 (subst HasForm (some_members k t l m.0 m.1) form)
  test-form few short (between_literals {x} {y} {lower} {upper} low high) f e =
      let a = bind_some (position_of t lower) (λ p. option_map (range_of k p) (position_of t upper)) f e in
      let b = map_some (position_of t upper) (range_of k a.0) f a.2 in
      subst HasForm b.2 (range-form a.0 b.0 (stands lower a.0 a.1) (stands upper b.0 b.1))
  test-form few short (like_pattern {pattern} {ts} {escape} {parts} d is) f e = like-form Sensitive parts f (parts-listed escape pattern parts short.0 short.1.1.0 is) e
  test-form few short (ilike_pattern {pattern} {ts} {escape} {parts} d is) f e = like-form Insensitive parts f (parts-listed escape pattern parts short.0 short.1.1.0 is) e

  condition-form : {ts : List TokenTree} {c : Condition} → length ts < 2 ^ 64 → AreShort size ts → IsCondition ts c → (f : Formula) → formula_in k t c ≡ Some f → HasForm f
  condition-form few short (compares {op} {x} {l} said) f e =
      let m = map_some (position_of t l) (comparison_of k op) f e in
      subst HasForm m.2 (comparison-form op m.0 (stands l m.0 m.1))
  condition-form few short is_null f e = let same : null_test k ≡ f = cc in subst HasForm same fits
  condition-form few short is_not_null f e =
      let m = map_some (formula_in k t missing) negation f e in
      let same : null_test k ≡ m.0 = cc in
      subst HasForm m.2 (subst HasForm same fits)
  condition-form few short (bare_test d) f e = test-form few short d f e
  condition-form few short (not_test {ts} {c} d) f e =
      let m = map_some (formula_in k t c) negation f e in
      subst HasForm m.2 (test-form (omega (arith, few)) (short.0, short.1.1) d m.0 m.1)

-- ---- its columns

typed-there : (k j : ℕ) (t : TypeTree) (o : Option ColumnTree) → typed_place j o ≡ Some (k, t) → (j ≡ k) × (option_map (λ (c : ColumnTree). c.typed) o ≡ Some t)
typed-there k j t None e = absurd cc
typed-there k j t (Some c) e =
    let made : ℕ × TypeTree = (j, c.typed) in
    let asked : ℕ × TypeTree = (k, t) in
    let same : Some made ≡ Some asked = e in
    let is : made ≡ asked = cc in
    (ap (λ (p : ℕ × TypeTree). p.0) is, ap (λ (p : ℕ × TypeTree). Some p.1) is)

there-by : (columns : List ColumnTree) (k : ℕ) (t : TypeTree) (o : Option ℕ) → column_there columns o ≡ Some (k, t) → slice_get (types_of columns) k ≡ Some t
there-by columns k t None e = absurd cc
there-by columns k t (Some j) e =
    let p = typed-there k j t (slice_get columns j) e in
    let there : slice_get (types_of columns) j ≡ Some t = slice_get-map (λ (c : ColumnTree). c.typed) columns j ∙ p.1 in
    subst (λ (i : ℕ). slice_get (types_of columns) i ≡ Some t) p.0 there

column-is-there : (columns : List ColumnTree) (name : List ℕ) (k : ℕ) (t : TypeTree) → column_named columns name ≡ Some (k, t) → slice_get (types_of columns) k ≡ Some t
unfolding column_named
column-is-there columns name k t e = there-by columns k t (or_numbered name (named_place columns name)) e

-- the tokens on either side of one are no more than all
left-few : (ts us : List TokenTree) → length (ts ++ us) < 2 ^ 64 → length ts < 2 ^ 64
left-few ts us few = omega (arith, few, length-append ts us)

right-few : (ts : List TokenTree) (x : TokenTree) (us : List TokenTree) → length (ts ++ x ∷ us) < 2 ^ 64 → length us < 2 ^ 64
right-few ts x us few = omega (arith, few, length-append ts (x ∷ us))

-- each column is of a type that has a byte
abbrev ArePlain : List ColumnTree → Type 0
ArePlain columns = (k : ℕ) (t : TypeTree) → slice_get (types_of columns) k ≡ Some t → AreSaid t

module _ (size : ℕ) (columns : List ColumnTree) (plain : ArePlain columns) (few : length columns < 2 ^ 64) where
  place-fits : (k : ℕ) (t : TypeTree) → slice_get (types_of columns) k ≡ Some t → Fits k
  place-fits k t there =
      let within = slice_get_within (types_of columns) k t there in
      omega (arith, within, few, length-map columns (λ (c : ColumnTree). c.typed))

  predicate-form : {ts : List TokenTree} {f : Formula} → length ts < 2 ^ 64 → AreShort size ts → IsPredicate columns ts f → HasForm f
  predicate-form few short says_true = tt
  predicate-form few short says_false = tt
  predicate-form few short says_null = tt
  predicate-form few short (on_column {name} {k} {t} {ts} {c} {f} named d e) =
      let there = column-is-there columns name k t named in
      condition-form size k t (place-fits k t there) (plain k t there) (omega (arith, few)) (short.0, short.1.1) d f e
  predicate-form few short (prefix_call {name} {k} {t} {x} {l} {f} named said e) =
      let there = column-is-there columns name k t named in
      begun-form size k t (place-fits k t there) (plain k t there) l f e

  filter-form : {l : _} {n : ℕ} {ts : List TokenTree} {f : Formula} → length ts < 2 ^ 64 → AreShort size ts → IsFilter columns l n ts f → HasForm f
  filter-form few short (predicate d) = predicate-form few short d
  filter-form few short (group {n} {ts} d) = filter-form (omega (arith, few, length-append ts (closing ∷ []))) (short.0, first-all (IsStringIn size) ts (closing ∷ []) short.1.1) d
  filter-form few short (not_filter d) = filter-form (omega (arith, few)) (short.0, short.1.1) d
  filter-form few short (one_operand d) = filter-form few short d
  filter-form few short (and_filter {n} {ts} {us} d e) =
      (filter-form (left-few ts _ few) (short.0, first-all (IsStringIn size) ts _ short.1) d, filter-form (right-few ts _ us few) (short.0, (rest-all (IsStringIn size) ts _ short.1).1) e)
  filter-form few short (one_conjunction d) = filter-form few short d
  filter-form few short (or_filter {n} {ts} {us} d e) =
      (filter-form (left-few ts _ few) (short.0, first-all (IsStringIn size) ts _ short.1) d, filter-form (right-few ts _ us few) (short.0, (rest-all (IsStringIn size) ts _ short.1).1) e)

-- ---- its tokens

items-few : (end : ℕ) (text : List ℕ) (items : List Item) (rest : List ℕ) → Leads end text items rest → length items ≤ length text
items-few end text [] rest h = omega arith
items-few end text (item ∷ items) rest h =
    let shorter = token_shorter text item.token h.1 (front_again text item.token h.0 h.1 h.2) in
    let more = items-few end (trimmed h.1) items rest h.4 in
    omega (arith, shorter, more, length-drop (prefix_len is_ascii_whitespace h.1) h.1)

tokens-few : (text : List ℕ) (items : List Item) → AreItemsOf text items → length (tokens_in items) ≤ length text
tokens-few text items h =
    let few = items-few (length text) (trimmed text) items [] h in
    omega (arith, few, length-drop (prefix_len is_ascii_whitespace text) text, length-map items (λ (i : Item). i.token))

-- ---- filters of words, over columns by name and kind

plain-kinds : (named : List NamedKind) → AllByRecursion IsPlain (types_of_kinds named)
plain-kinds [] = tt
plain-kinds (column ∷ named) = (plain-column column, plain-kinds named)

said-there : TypesSay → WordsSay → (t : TypeTree) (o : Option NamedKind) → option_map (λ (c : ColumnTree). c.typed) (option_map tree_of_kind o) ≡ Some t → AreSaid t
said-there say words t None e = absurd cc
said-there say words t (Some column) e =
    let is : type_at (kind_of_named column) ≡ t = cc in
    subst AreSaid is (plain-said say words (type_at (kind_of_named column)) (plain-column column))

plain-columns : TypesSay → WordsSay → (named : List NamedKind) → ArePlain (trees_of_kinds named)
plain-columns say words named k t e =
    said-there say words t (slice_get named k) (ap (option_map (λ (c : ColumnTree). c.typed)) (sym (slice_get-map tree_of_kind named k)) ∙ sym (slice_get-map (λ (c : ColumnTree). c.typed) (trees_of_kinds named) k) ∙ e)

-- the filter that words are can be written at the depth that goes with theirs
pub words-nest : TypesSay → WordsSay → (n : ℕ) (words : List ℕ) (named : List NamedKind) (f : Formula) → length words < 2 ^ 64 → length named < 2 ^ 64 → IsUtf8 words → IsSqlWithin n (trees_of_kinds named) words f → CanBeWritten (encoding_depth n) (prepared_of named f)
words-nest say read n words named f short few utf8 h =
    let tokens = tokens-few words h.items h.are in
    let low = whole-low h.means in
    record {
      types = record { fit = omega (arith, few, length-map named (λ (column : NamedKind). type_at (kind_of_named column))); each = plain-kinds named };
      filter = nests f (encoding_depth n)
          (filter-form (length words) (trees_of_kinds named) (plain-columns say read named) (omega (arith, few, length-map named tree_of_kind)) (omega (arith, short, tokens)) (short, strings-read words h.items utf8 h.are) h.means)
          (omega (arith, low.high, low.tokens, tokens, short, same-height f));
    }
