-- The grammar of SQL text: which tokens are a filter, and its formula.
use Rattle.std.specs.Prelude.{◌≡◌, ℕ, suc, List, [], ◌∷◌, ◌++◌, Option, Some, None}
use Rattle.std.specs.Str.{chars}
use Rattle.vortex_dtype.specs.TypeTree.{TypeTree}
use Rattle.vortex_filter.specs.declared.operator.CompareOperator.{CompareOperator}
use Rattle.filter_sql.specs.declared.print.Level.{Level}
use Rattle.filter_sql.specs.declared.print.Level.TheVariants as levels
use Rattle.filter_sql.specs.declared.token.Keyword.TheVariants as keywords
use Rattle.vortex_filter.specs.declared.truth.Truth.TheVariants as truths
use Rattle.filter_sql.specs.ColumnNames.{ColumnTree, column_named}
use Rattle.vortex_filter.specs.Formula.{Formula, constant, both, either, negation}
use Rattle.vortex_filter.specs.Literals.{LiteralTree}
use Rattle.like_patterns.specs.declared.case.Case.TheVariants.{Sensitive, Insensitive}
use Rattle.like_patterns.specs.Patterns.{Part}
use Rattle.like_patterns.specs.Texts.{pattern_of}
use Rattle.filter_sql.specs.Literals.{Condition, compared, missing, listed, between, begun, alike, denied, formula_in, literal_of}
use Rattle.filter_sql.specs.Tokens.{TokenTree, keyword_token, name_token, string_token, operator_token, opening, closing, comma}

-- literals with commas between them, one or more
pub data AreLiterals : List TokenTree → List LiteralTree → Type 0 where
  one_literal : {x : TokenTree} {l : LiteralTree} → literal_of x ≡ Some l → AreLiterals (x ∷ []) (l ∷ [])
  more_literals : {x : TokenTree} {l : LiteralTree} {ts : List TokenTree} {ls : List LiteralTree} → literal_of x ≡ Some l → AreLiterals ts ls → AreLiterals (x ∷ comma ∷ ts) (l ∷ ls)

-- what may stand behind a pattern: nothing, or its escape, a string of one character
pub data IsEscape : List TokenTree → Option ℕ → Type 0 where
  unescaped : IsEscape [] None
  escaped_by : {bs : List ℕ} {c : ℕ} → chars bs ≡ c ∷ [] → IsEscape (keyword_token keywords.Escape ∷ string_token bs ∷ []) (Some c)

-- what may stand behind a column, or behind a `not` there
pub data IsTest : List TokenTree → Condition → Type 0 where
  in_nothing : IsTest (keyword_token keywords.In ∷ opening ∷ closing ∷ []) (listed [])
  in_literals : {ts : List TokenTree} {ls : List LiteralTree} → AreLiterals ts ls → IsTest (keyword_token keywords.In ∷ opening ∷ (ts ++ closing ∷ [])) (listed ls)
  between_literals : {x y : TokenTree} {lower upper : LiteralTree} → literal_of x ≡ Some lower → literal_of y ≡ Some upper → IsTest (keyword_token keywords.Between ∷ x ∷ keyword_token keywords.And ∷ y ∷ []) (between lower upper)
  like_pattern : {pattern : List ℕ} {ts : List TokenTree} {escape : Option ℕ} {parts : List Part} → IsEscape ts escape → pattern_of escape (chars pattern) ≡ Some parts → IsTest (keyword_token keywords.Like ∷ string_token pattern ∷ ts) (alike Sensitive parts)
  ilike_pattern : {pattern : List ℕ} {ts : List TokenTree} {escape : Option ℕ} {parts : List Part} → IsEscape ts escape → pattern_of escape (chars pattern) ≡ Some parts → IsTest (keyword_token keywords.Ilike ∷ string_token pattern ∷ ts) (alike Insensitive parts)

-- what may stand behind a column
pub data IsCondition : List TokenTree → Condition → Type 0 where
  compares : {op : CompareOperator} {x : TokenTree} {l : LiteralTree} → literal_of x ≡ Some l → IsCondition (operator_token op ∷ x ∷ []) (compared op l)
  is_null : IsCondition (keyword_token keywords.Is ∷ keyword_token keywords.Null ∷ []) missing
  is_not_null : IsCondition (keyword_token keywords.Is ∷ keyword_token keywords.Not ∷ keyword_token keywords.Null ∷ []) (denied missing)
  bare_test : {ts : List TokenTree} {c : Condition} → IsTest ts c → IsCondition ts c
  not_test : {ts : List TokenTree} {c : Condition} → IsTest ts c → IsCondition (keyword_token keywords.Not ∷ ts) (denied c)

-- a filter without connectives
pub data IsPredicate (columns : List ColumnTree) : List TokenTree → Formula → Type 0 where
  says_true : IsPredicate columns (keyword_token keywords.True ∷ []) (constant truths.True)
  says_false : IsPredicate columns (keyword_token keywords.False ∷ []) (constant truths.False)
  says_null : IsPredicate columns (keyword_token keywords.Null ∷ []) (constant truths.Unknown)
  on_column : {name : List ℕ} {k : ℕ} {t : TypeTree} {ts : List TokenTree} {c : Condition} {f : Formula} → column_named columns name ≡ Some (k, t) → IsCondition ts c → formula_in k t c ≡ Some f → IsPredicate columns (name_token name ∷ ts) f
  prefix_call : {name : List ℕ} {k : ℕ} {t : TypeTree} {x : TokenTree} {l : LiteralTree} {f : Formula} → column_named columns name ≡ Some (k, t) → literal_of x ≡ Some l → formula_in k t (begun l) ≡ Some f → IsPredicate columns (keyword_token keywords.StartsWith ∷ opening ∷ name_token name ∷ comma ∷ x ∷ closing ∷ []) f

-- Tokens that are a filter in a place where connectives of this level and tighter ones may stand bare, and its formula. At
-- most n connectives and parentheses nest in them. `and` and `or` group to the right.
pub data IsFilter (columns : List ColumnTree) : Level → ℕ → List TokenTree → Formula → Type 0 where
  predicate : {n : ℕ} {ts : List TokenTree} {f : Formula} → IsPredicate columns ts f → IsFilter columns levels.Not n ts f
  group : {n : ℕ} {ts : List TokenTree} {f : Formula} → IsFilter columns levels.Or n ts f → IsFilter columns levels.Not (suc n) (opening ∷ (ts ++ closing ∷ [])) f
  not_filter : {n : ℕ} {ts : List TokenTree} {f : Formula} → IsFilter columns levels.Not n ts f → IsFilter columns levels.Not (suc n) (keyword_token keywords.Not ∷ ts) (negation f)
  one_operand : {n : ℕ} {ts : List TokenTree} {f : Formula} → IsFilter columns levels.Not n ts f → IsFilter columns levels.And n ts f
  and_filter : {n : ℕ} {ts us : List TokenTree} {f g : Formula} → IsFilter columns levels.Not (suc n) ts f → IsFilter columns levels.And n us g → IsFilter columns levels.And (suc n) (ts ++ keyword_token keywords.And ∷ us) (both f g)
  one_conjunction : {n : ℕ} {ts : List TokenTree} {f : Formula} → IsFilter columns levels.And n ts f → IsFilter columns levels.Or n ts f
  or_filter : {n : ℕ} {ts us : List TokenTree} {f g : Formula} → IsFilter columns levels.And (suc n) ts f → IsFilter columns levels.Or n us g → IsFilter columns levels.Or (suc n) (ts ++ keyword_token keywords.Or ∷ us) (either f g)
