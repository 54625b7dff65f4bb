-- What is in the grammar is read.
use Rattle.std.proofs.Common.{◌≡◌, ℕ, true, List, [], ◌∷◌, ◌++◌, Option, Some, None, refl, ap, ◌∙◌, append_assoc}
use Rattle.std.specs.Prelude.{option_and_then, option_map}
use Rattle.std.specs.Str.{chars}
use Rattle.std.proofs.lemmas.List.{append-nil}
use Rattle.like_patterns.specs.declared.case.Case.{Case}
use Rattle.like_patterns.specs.declared.case.Case.TheVariants.{Sensitive, Insensitive}
use Rattle.like_patterns.specs.Patterns.{Part}
use Rattle.like_patterns.specs.Texts.{pattern_of}
use Rattle.vortex_dtype.specs.TypeTree.{TypeTree}
use Rattle.vortex_cells.specs.Cells.{Cell}
use Rattle.vortex_filter.specs.declared.operator.CompareOperator.{CompareOperator}
use Rattle.filter_sql.specs.declared.print.Level.TheVariants as levels
use Rattle.filter_sql.specs.declared.token.Keyword.TheVariants.{And, Not, In, Is, Null, Between, Like, Ilike, Escape, StartsWith}
use Rattle.filter_sql.specs.ColumnNames.{ColumnTree, column_named}
use Rattle.vortex_filter.specs.CheckSteps.{holds_strings}
use Rattle.vortex_filter.specs.Formula.{Formula, null_test, membership, negation}
use Rattle.vortex_filter.specs.Literals.{LiteralTree, position_of}
use Rattle.vortex_filter.specs.Positions.{PositionTree, exactly, just_above, lacking, cells_of, comparison_of, member_among, member_of, prefix_of, range_of}
use Rattle.filter_sql.specs.Literals.{Condition, formula_in, like_in, literal_of, positions_of}
use Rattle.filter_sql.specs.Grammar.{AreLiterals, one_literal, more_literals, IsTest, in_nothing, in_literals, between_literals, IsEscape, unescaped, escaped_by, like_pattern, ilike_pattern, IsCondition, compares, is_null, is_not_null, bare_test, not_test, IsPredicate, says_true, says_false, says_null, on_column, prefix_call}
use Rattle.filter_sql.specs.Tokens.{TokenTree, keyword_token, name_token, number_token, string_token, bytes_token, operator_token, opening, closing, comma, verbatim}
use Rattle.filter_sql.specs.Reading.{Read, after_keyword, after_opening, after_closing, after_comma, operator_at, name_at, string_at, position_at, token_position, more_cells, cells_at, members_at, range_at, escape_at, like_at, test_at, comparison_at, null_test_at, negated, condition_at, prefix_in, prefix_call_at, constant_at, predicate_at}
use Rattle.filter_sql.proofs.ConditionSteps.{bind_some, guard_some, map_some, position_said, some_members, stand_parts}
use Rattle.filter_sql.proofs.TestSteps.{comma_more}
use Rattle.filter_sql.proofs.Words.{MayFollow, no_escape, some_is}

-- ---- what is in the grammar is read

-- a literal is no parenthesis
not_closing : (x : TokenTree) (l : LiteralTree) (ts : List TokenTree) → literal_of x ≡ Some l → after_closing (x ∷ ts) ≡ None
unfolding after_closing literal_of
not_closing (keyword_token k) l ts e = refl
not_closing (name_token bs) l ts e = refl
not_closing (number_token word) l ts e = refl
not_closing (string_token bs) l ts e = refl
not_closing (bytes_token bs) l ts e = refl
not_closing (operator_token op) l ts e = refl
not_closing opening l ts e = refl
not_closing closing l ts e = absurd cc
not_closing comma l ts e = refl
not_closing (verbatim bs) l ts e = refl

literals_not_closing : {ts : List TokenTree} {ls : List LiteralTree} → AreLiterals ts ls → (rest : List TokenTree) → after_closing (ts ++ rest) ≡ None
literals_not_closing (one_literal {x} {l} said) rest = not_closing x l rest said
literals_not_closing (more_literals {x} {l} {ts} said more) rest = not_closing x l (comma ∷ (ts ++ rest)) said

pub cells_front : (p : PositionTree) (ps : List PositionTree) → cells_of (p ∷ []) ++ cells_of ps ≡ cells_of (p ∷ ps)
cells_front (exactly x) ps = refl
cells_front (just_above x) ps = refl
cells_front (lacking o) ps = refl

one_closed : (t : TypeTree) (x : TokenTree) (p : PositionTree) (rest : List TokenTree) → token_position t x ≡ Some p → cells_at t (x ∷ closing ∷ rest) ≡ Some (cells_of (p ∷ []), rest)
unfolding cells_at more_cells
one_closed t x p rest said = rw said (ap (λ (cs : List Cell). Some (cs, rest)) (append-nil (cells_of (p ∷ []))))

more_closed : (t : TypeTree) (x : TokenTree) (p : PositionTree) (us : List TokenTree) (cs : List Cell) (rest : List TokenTree) → token_position t x ≡ Some p → more_cells t us ≡ Some (cs, rest) → cells_at t (x ∷ us) ≡ Some (cells_of (p ∷ []) ++ cs, rest)
unfolding cells_at
more_closed t x p us cs rest said more = rw (said, more) refl

literals_read : (t : TypeTree) {ts : List TokenTree} {ls : List LiteralTree} → AreLiterals ts ls → (ps : List PositionTree) → positions_of t ls ≡ Some ps → (rest : List TokenTree) → cells_at t (ts ++ closing ∷ rest) ≡ Some (cells_of ps, rest)
literals_read t (one_literal {x} {l} said) ps e rest =
    let p = stand_parts t l [] ps e in
    one_closed t x p.first rest (position_said t x l p.first said p.stands)
    ∙ ap (λ (qs : List PositionTree). Some (cells_of (p.first ∷ qs), rest)) (some_is [] p.others p.stand) ∙ ap (λ (qs : List PositionTree). Some (cells_of qs, rest)) p.whole
literals_read t (more_literals {x} {l} {ts} {ls} said more) ps e rest =
    let p = stand_parts t l ls ps e in
    more_closed t x p.first (comma ∷ (ts ++ closing ∷ rest)) (cells_of p.others) rest (position_said t x l p.first said p.stands) (comma_more t (ts ++ closing ∷ rest) ∙ literals_read t more p.others p.stand rest)
    ∙ ap (λ (cs : List Cell). Some (cs, rest)) (cells_front p.first p.others) ∙ ap (λ (qs : List PositionTree). Some (cells_of qs, rest)) p.whole

members_at_cells : (k : ℕ) (t : TypeTree) (ts : List TokenTree) (cs : List Cell) (rest : List TokenTree) → after_closing ts ≡ None → cells_at t ts ≡ Some (cs, rest) → members_at k t (opening ∷ ts) ≡ Some (member_of k cs, rest)
unfolding members_at after_opening
members_at_cells k t ts cs rest none read = rw (none, read) refl

members_read : (k : ℕ) (t : TypeTree) {ts : List TokenTree} {ls : List LiteralTree} → AreLiterals ts ls → (ps : List PositionTree) → positions_of t ls ≡ Some ps → (rest : List TokenTree) → members_at k t (opening ∷ (ts ++ closing ∷ rest)) ≡ Some (member_among k ps, rest)
members_read k t {ts} {ls} d ps e rest =
    members_at_cells k t (ts ++ closing ∷ rest) (cells_of ps) rest (literals_not_closing d (closing ∷ rest)) (literals_read t d ps e rest)
    ∙ ap (λ (f : Formula). Some (f, rest)) (some_members k t d ps e)

plain_read : (rest : List TokenTree) → after_keyword Escape rest ≡ None → escape_at rest ≡ Some (None, rest)
unfolding escape_at
plain_read rest none = rw none refl

escaped_read : (bs : List ℕ) (c : ℕ) (rest : List TokenTree) → chars bs ≡ c ∷ [] → escape_at (keyword_token Escape ∷ string_token bs ∷ rest) ≡ Some (Some c, rest)
unfolding escape_at after_keyword string_at
escaped_read bs c rest one = rw one refl

escape_reads : {ts : List TokenTree} {escape : Option ℕ} → IsEscape ts escape → (rest : List TokenTree) → after_keyword Escape rest ≡ None → escape_at (ts ++ rest) ≡ Some (escape, rest)
escape_reads unescaped rest none = plain_read rest none
escape_reads (escaped_by {bs} {c} one) rest none = escaped_read bs c rest one

like_read : (k : ℕ) (t : TypeTree) (case : Case) (pattern : List ℕ) (parts : List Part) (f : Formula) (escape : Option ℕ) (ts rest : List TokenTree) → escape_at ts ≡ Some (escape, rest) → pattern_of escape (chars pattern) ≡ Some parts → like_in k t case parts ≡ Some f → like_at k t case (string_token pattern ∷ ts) ≡ Some (f, rest)
unfolding like_at string_at
like_read k t case pattern parts f escape ts rest read is says =
    ap (option_and_then (λ (e : Option ℕ × List TokenTree). option_and_then (λ (ps : List Part). option_and_then (λ (g : Formula). Some (g, e.1)) (like_in k t case ps)) (pattern_of e.0 (chars pattern)))) read
    ∙ ap (option_and_then (λ (ps : List Part). option_and_then (λ (g : Formula). Some (g, rest)) (like_in k t case ps))) is ∙ ap (option_and_then (λ (g : Formula). Some (g, rest))) says

range_read : (k : ℕ) (t : TypeTree) (x y : TokenTree) (p q : PositionTree) (rest : List TokenTree) → token_position t x ≡ Some p → token_position t y ≡ Some q → range_at k t (x ∷ keyword_token And ∷ y ∷ rest) ≡ Some (range_of k p q, rest)
unfolding range_at position_at after_keyword
range_read k t x y p q rest low high = rw (low, high) refl

-- no test begins with an operator, `is` or `not`
pub record BeginsTest (ts : List TokenTree) : Type 0 where
  pub operator : operator_at ts ≡ None
  pub is_word : after_keyword Is ts ≡ None
  pub not_word : after_keyword Not ts ≡ None

test_begins : {ts : List TokenTree} {c : Condition} → IsTest ts c → (rest : List TokenTree) → BeginsTest (ts ++ rest)
unfolding operator_at after_keyword
test_begins in_nothing rest = record { operator = refl; is_word = refl; not_word = refl }
test_begins (in_literals ls) rest = record { operator = refl; is_word = refl; not_word = refl }
test_begins (between_literals low high) rest = record { operator = refl; is_word = refl; not_word = refl }
test_begins (like_pattern e p) rest = record { operator = refl; is_word = refl; not_word = refl }
test_begins (ilike_pattern e p) rest = record { operator = refl; is_word = refl; not_word = refl }

in_test : (k : ℕ) (t : TypeTree) (ts : List TokenTree) → test_at k t (keyword_token In ∷ ts) ≡ members_at k t ts
unfolding test_at after_keyword
in_test k t ts = refl

between_test : (k : ℕ) (t : TypeTree) (ts : List TokenTree) → test_at k t (keyword_token Between ∷ ts) ≡ range_at k t ts
unfolding test_at after_keyword
between_test k t ts = refl

like_test : (k : ℕ) (t : TypeTree) (ts : List TokenTree) → test_at k t (keyword_token Like ∷ ts) ≡ like_at k t Sensitive ts
unfolding test_at after_keyword
like_test k t ts = refl

ilike_test : (k : ℕ) (t : TypeTree) (ts : List TokenTree) → test_at k t (keyword_token Ilike ∷ ts) ≡ like_at k t Insensitive ts
unfolding test_at after_keyword
ilike_test k t ts = refl

nothing_read : (k : ℕ) (t : TypeTree) (rest : List TokenTree) → members_at k t (opening ∷ closing ∷ rest) ≡ Some (membership k [], rest)
unfolding members_at after_opening after_closing
nothing_read k t rest = refl

-- the formula that was read is the one asked for
read_as : (r : Read) (g f : Formula) (rest : List TokenTree) → r ≡ Some (g, rest) → g ≡ f → r ≡ Some (f, rest)
read_as r g f rest read same = read ∙ ap (λ (h : Formula). Some (h, rest)) same

module _ (k : ℕ) (t : TypeTree) where
  test_reads : {ts : List TokenTree} {c : Condition} → IsTest ts c → (f : Formula) → formula_in k t c ≡ Some f → (rest : List TokenTree) → MayFollow levels.Not rest → test_at k t (ts ++ rest) ≡ Some (f, rest)
  test_reads in_nothing f e rest follows = read_as _ (membership k []) f rest (in_test k t (opening ∷ closing ∷ rest) ∙ nothing_read k t rest) (some_is (membership k []) f e)
  test_reads (in_literals {ts} {ls} l) f e rest follows =
      let m = map_some (positions_of t ls) (member_among k) f e in
      read_as _ (member_among k m.0) f rest
      (in_test k t (opening ∷ ((ts ++ closing ∷ []) ++ rest)) ∙ ap (λ (us : List TokenTree). members_at k t (opening ∷ us)) (append_assoc ts (closing ∷ []) rest) ∙ members_read k t l m.0 m.1 rest) m.2
  test_reads (between_literals {x} {y} {lower} {upper} low high) f e rest follows =
      let a = bind_some (position_of t lower) (λ p. option_map (range_of k p) (position_of t upper)) f e in
      let b = map_some (position_of t upper) (range_of k a.0) f a.2 in
      read_as _ (range_of k a.0 b.0) f rest
      (between_test k t (x ∷ keyword_token And ∷ y ∷ rest) ∙ range_read k t x y a.0 b.0 rest (position_said t x lower a.0 low a.1) (position_said t y upper b.0 high b.1)) b.2
  test_reads (like_pattern {pattern} {ts} {escape} {parts} d p) f e rest follows =
      like_test k t (string_token pattern ∷ (ts ++ rest)) ∙ like_read k t Sensitive pattern parts f escape (ts ++ rest) rest (escape_reads d rest (no_escape follows)) p e
  test_reads (ilike_pattern {pattern} {ts} {escape} {parts} d p) f e rest follows =
      ilike_test k t (string_token pattern ∷ (ts ++ rest)) ∙ like_read k t Insensitive pattern parts f escape (ts ++ rest) rest (escape_reads d rest (no_escape follows)) p e

comparison_read : (k : ℕ) (t : TypeTree) (op : CompareOperator) (x : TokenTree) (p : PositionTree) (rest : List TokenTree) → token_position t x ≡ Some p → condition_at k t (operator_token op ∷ x ∷ rest) ≡ Some (comparison_of k op p, rest)
unfolding condition_at operator_at comparison_at position_at
comparison_read k t op x p rest said = rw said refl

null_read : (k : ℕ) (t : TypeTree) (rest : List TokenTree) → condition_at k t (keyword_token Is ∷ keyword_token Null ∷ rest) ≡ Some (null_test k, rest)
unfolding condition_at operator_at null_test_at after_keyword
null_read k t rest = refl

not_null_read : (k : ℕ) (t : TypeTree) (rest : List TokenTree) → condition_at k t (keyword_token Is ∷ keyword_token Not ∷ keyword_token Null ∷ rest) ≡ Some (negation (null_test k), rest)
unfolding condition_at operator_at null_test_at after_keyword
not_null_read k t rest = refl

bare_read : (k : ℕ) (t : TypeTree) (ts : List TokenTree) → BeginsTest ts → condition_at k t ts ≡ test_at k t ts
unfolding condition_at
bare_read k t ts begins = rw (begins.operator, begins.is_word, begins.not_word) refl

not_read : (k : ℕ) (t : TypeTree) (ts : List TokenTree) → condition_at k t (keyword_token Not ∷ ts) ≡ negated (test_at k t ts)
unfolding condition_at operator_at after_keyword
not_read k t ts = refl

condition_reads : (k : ℕ) (t : TypeTree) {ts : List TokenTree} {c : Condition} → IsCondition ts c → (f : Formula) → formula_in k t c ≡ Some f → (rest : List TokenTree) → MayFollow levels.Not rest → condition_at k t (ts ++ rest) ≡ Some (f, rest)
condition_reads k t (compares {op} {x} {l} said) f e rest follows =
    let m = map_some (position_of t l) (comparison_of k op) f e in
    read_as _ (comparison_of k op m.0) f rest (comparison_read k t op x m.0 rest (position_said t x l m.0 said m.1)) m.2
condition_reads k t is_null f e rest follows = read_as _ (null_test k) f rest (null_read k t rest) (some_is (null_test k) f e)
condition_reads k t is_not_null f e rest follows = read_as _ (negation (null_test k)) f rest (not_null_read k t rest) (some_is (negation (null_test k)) f e)
condition_reads k t (bare_test {ts} {c} d) f e rest follows = bare_read k t (ts ++ rest) (test_begins d rest) ∙ test_reads k t d f e rest follows
condition_reads k t (not_test {ts} {c} d) f e rest follows =
    let m = map_some (formula_in k t c) negation f e in
    read_as _ (negation m.0) f rest (not_read k t (ts ++ rest) ∙ ap negated (test_reads k t d m.0 m.1 rest follows)) m.2

column_read : (columns : List ColumnTree) (name : List ℕ) (k : ℕ) (t : TypeTree) (ts : List TokenTree) → column_named columns name ≡ Some (k, t) → predicate_at columns (name_token name ∷ ts) ≡ condition_at k t ts
unfolding predicate_at name_at
column_read columns name k t ts named = rw named refl

call_read : (columns : List ColumnTree) (name : List ℕ) (k : ℕ) (t : TypeTree) (x : TokenTree) (p : PositionTree) (f : Formula) (rest : List TokenTree) → column_named columns name ≡ Some (k, t) → holds_strings t ≡ true → token_position t x ≡ Some p → prefix_of k p ≡ Some f
    → predicate_at columns (keyword_token StartsWith ∷ opening ∷ name_token name ∷ comma ∷ x ∷ closing ∷ rest) ≡ Some (f, rest)
unfolding predicate_at name_at after_keyword prefix_call_at after_opening after_comma after_closing position_at prefix_in
call_read columns name k t x p f rest named strings said prefixed = rw (named, said, strings, prefixed) refl

-- what a predicate that is read begins with
pub record Reads (columns : List ColumnTree) (ts : List TokenTree) (f : Formula) (rest : List TokenTree) : Type 0 where
  pub no_not : None ≡ after_keyword Not ts
  pub no_opening : None ≡ after_opening ts
  pub gives : predicate_at columns ts ≡ Some (f, rest)

pub predicate_reads : (columns : List ColumnTree) {ts : List TokenTree} {f : Formula} → IsPredicate columns ts f → (rest : List TokenTree) → MayFollow levels.Not rest → Reads columns (ts ++ rest) f rest
unfolding after_keyword after_opening predicate_at name_at constant_at
predicate_reads columns says_true rest follows = record { no_not = refl; no_opening = refl; gives = refl }
predicate_reads columns says_false rest follows = record { no_not = refl; no_opening = refl; gives = refl }
predicate_reads columns says_null rest follows = record { no_not = refl; no_opening = refl; gives = refl }
predicate_reads columns (on_column {name} {k} {t} {ts} {c} {f} named d e) rest follows =
    record { no_not = refl; no_opening = refl; gives = column_read columns name k t (ts ++ rest) named ∙ condition_reads k t d f e rest follows }
predicate_reads columns (prefix_call {name} {k} {t} {x} {l} {f} named said e) rest follows =
    let g = guard_some (holds_strings t) (option_and_then (prefix_of k) (position_of t l)) f e in
    let a = bind_some (position_of t l) (prefix_of k) f g.1 in
    record { no_not = refl; no_opening = refl; gives = call_read columns name k t x a.0 f rest named g.0 (position_said t x l a.0 said a.1) a.2 }
