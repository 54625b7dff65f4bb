-- What is read of predicates is in the grammar.
use Rattle.std.proofs.Common.{◌≡◌, ◌⊎◌, inl, inr, ℕ, true, List, [], ◌∷◌, ◌++◌, Option, Some, None, refl, sym, ap, subst, ◌∙◌, append_assoc}
use Rattle.std.specs.Prelude.{option_map}
use Rattle.std.specs.Str.{chars}
use Rattle.std.proofs.lemmas.List.{append-nil}
use Rattle.like_patterns.specs.declared.case.Case.{Case}
use Rattle.like_patterns.specs.declared.case.Case.TheVariants.{Sensitive, Insensitive}
use Rattle.like_patterns.specs.Patterns.{Part}
use Rattle.like_patterns.specs.Texts.{pattern_of}
use Rattle.vortex_dtype.specs.TypeTree.{TypeTree}
use Rattle.vortex_cells.specs.Cells.{Cell}
use Rattle.vortex_filter.specs.declared.operator.CompareOperator.{CompareOperator}
use Rattle.filter_sql.specs.declared.token.Keyword.TheVariants.{And, Not, In, Is, Null, Between, Like, Ilike, Escape, True, False, StartsWith}
use Rattle.vortex_filter.specs.declared.truth.Truth.TheVariants as truths
use Rattle.filter_sql.specs.ColumnNames.{ColumnTree, column_named}
use Rattle.vortex_filter.specs.Formula.{Formula, constant, null_test, membership, negation}
use Rattle.vortex_filter.specs.CheckSteps.{holds_strings}
use Rattle.vortex_filter.specs.Literals.{LiteralTree}
use Rattle.vortex_filter.specs.Positions.{PositionTree, cells_of, comparison_of, member_among, member_of, prefix_of, range_of}
use Rattle.filter_sql.specs.Literals.{Condition, compared, missing, listed, between, alike, denied, formula_in, like_in, like_keyword, positions_of}
use Rattle.filter_sql.specs.Grammar.{AreLiterals, one_literal, more_literals, IsTest, in_nothing, in_literals, between_literals, IsEscape, unescaped, escaped_by, like_pattern, ilike_pattern, IsCondition, compares, is_null, is_not_null, bare_test, not_test, IsPredicate, says_true, says_false, says_null, on_column, prefix_call}
use Rattle.filter_sql.specs.Tokens.{TokenTree, keyword_token, name_token, string_token, operator_token, opening, closing, comma}
use Rattle.filter_sql.specs.Reading.{◌>>=◌, chosen, Read, after_keyword, after_opening, after_closing, after_comma, operator_at, name_at, string_at, position_at, token_position, preceded, more_cells, cells_at, members_from, members_at, range_at, only_one, escape_then, escape_at, like_at, test_at, comparison_at, null_test_at, negated, condition_at, condition_of, prefix_in, prefix_call_at, constant_at, predicate_at}
use Rattle.filter_sql.proofs.ConditionSteps.{begun_says, between_says, bind_some, guard_some, some_members, stand_more, token_stands}
use Rattle.filter_sql.proofs.TestSteps.{literal_came}
use Rattle.filter_sql.proofs.PredicateLaws.{cells_front}
use Rattle.filter_sql.proofs.Words.{keyword_came, opening_came, closing_came, comma_came, some_is}

-- ---- steps that did not fail

chosen_some : {A B : Type 0} (o : Option A) (f : A → Option B) (d : Option B) (y : B) → chosen o f d ≡ Some y → ((x : A) × (o ≡ Some x) × (f x ≡ Some y)) ⊎ (d ≡ Some y)
chosen_some None f d y e = inr e
chosen_some (Some x) f d y e = inl (x, refl, e)

abbrev made : {A B : Type 0} → A → B → Option (A × B)
made a b = Some (a, b)

pair_parts : {A B : Type 0} (a c : A) (b d : B) → made a b ≡ made c d → (a ≡ c) × (b ≡ d)
pair_parts {A} {B} a c b d e =
    let x : A × B = (a, b) in
    let y : A × B = (c, d) in
    let same : x ≡ y = some_is x y e in
    (ap (λ (p : A × B). p.0) same, ap (λ (p : A × B). p.1) same)

operator_came : (ts : List TokenTree) (op : CompareOperator) (us : List TokenTree) → operator_at ts ≡ Some (op, us) → ts ≡ operator_token op ∷ us
unfolding operator_at
operator_came (operator_token o ∷ ts) op us e = let p = pair_parts o op ts us e in let first : o ≡ op = p.0 in let rest : ts ≡ us = p.1 in cc
operator_came _ op us e = absurd cc

name_came : (ts : List TokenTree) (bs : List ℕ) (us : List TokenTree) → name_at ts ≡ Some (bs, us) → ts ≡ name_token bs ∷ us
unfolding name_at
name_came (name_token n ∷ ts) bs us e = let p = pair_parts n bs ts us e in let first : n ≡ bs = p.0 in let rest : ts ≡ us = p.1 in cc
name_came _ bs us e = absurd cc

string_came : (ts : List TokenTree) (bs : List ℕ) (us : List TokenTree) → string_at ts ≡ Some (bs, us) → ts ≡ string_token bs ∷ us
unfolding string_at
string_came (string_token n ∷ ts) bs us e = let p = pair_parts n bs ts us e in let first : n ≡ bs = p.0 in let rest : ts ≡ us = p.1 in cc
string_came _ bs us e = absurd cc

-- ---- literals in parentheses

record CellsFront (t : TypeTree) (ts : List TokenTree) (cs : List Cell) (us : List TokenTree) : Type 0 where
  tokens : List TokenTree
  literals : List LiteralTree
  positions : List PositionTree
  whole : ts ≡ tokens ++ closing ∷ us
  are : AreLiterals tokens literals
  stand : positions_of t literals ≡ Some positions
  cells : cs ≡ cells_of positions

record CommaFront (t : TypeTree) (ts : List TokenTree) (cs : List Cell) (us : List TokenTree) : Type 0 where
  behind : List TokenTree
  begins : ts ≡ comma ∷ behind
  front : CellsFront t behind cs us

abbrev MoreFront : TypeTree → List TokenTree → List Cell → List TokenTree → Type 0
MoreFront t ts cs us = ((ts ≡ closing ∷ us) × (cs ≡ [])) ⊎ CommaFront t ts cs us

literal_first : (t : TypeTree) (x : TokenTree) (p : PositionTree) (ts : List TokenTree) (ds : List Cell) (us : List TokenTree) → token_position t x ≡ Some p → MoreFront t ts ds us → CellsFront t (x ∷ ts) (cells_of (p ∷ []) ++ ds) us
literal_first t x p ts ds us said (inl end) =
    let s = token_stands t x p said in
    record {
      tokens = x ∷ [];
      literals = s.0 ∷ [];
      positions = p ∷ [];
      whole = ap (λ (r : List TokenTree). x ∷ r) end.0;
      are = one_literal {x = x} {l = s.0} s.1;
      stand = stand_more t s.0 p [] [] s.2 refl;
      cells = ap (λ (cs : List Cell). cells_of (p ∷ []) ++ cs) end.1 ∙ append-nil (cells_of (p ∷ []));
    }
literal_first t x p ts ds us said (inr more) =
    let s = token_stands t x p said in
    record {
      tokens = x ∷ comma ∷ more.front.tokens;
      literals = s.0 ∷ more.front.literals;
      positions = p ∷ more.front.positions;
      whole = ap (λ (r : List TokenTree). x ∷ r) (more.begins ∙ ap (λ (r : List TokenTree). comma ∷ r) more.front.whole);
      are = more_literals {x = x} {l = s.0} {ts = more.front.tokens} {ls = more.front.literals} s.1 more.front.are;
      stand = stand_more t s.0 p more.front.literals more.front.positions s.2 more.front.stand;
      cells = ap (λ (cs : List Cell). cells_of (p ∷ []) ++ cs) more.front.cells ∙ cells_front p more.front.positions;
    }

record Preceded (t : TypeTree) (x : TokenTree) (r : Option (List Cell × List TokenTree)) (cs : List Cell) (us : List TokenTree) : Type 0 where
  position : PositionTree
  more : List Cell
  said : token_position t x ≡ Some position
  read : r ≡ Some (more, us)
  cells : cells_of (position ∷ []) ++ more ≡ cs

preceded_parts : (t : TypeTree) (x : TokenTree) (o : Option PositionTree) (r : Option (List Cell × List TokenTree)) (cs : List Cell) (us : List TokenTree) → token_position t x ≡ o → preceded o r ≡ Some (cs, us) → Preceded t x r cs us
preceded_parts t x None r cs us said e = absurd cc
preceded_parts t x (Some p) None cs us said e = absurd cc
preceded_parts t x (Some p) (Some (ds, vs)) cs us said e =
    let q = pair_parts (cells_of (p ∷ []) ++ ds) cs vs us e in
    record { position = p; more = ds; said = said; read = ap (λ (r : List TokenTree). Some (ds, r)) q.1; cells = q.0 }

with_cells : (t : TypeTree) (ts : List TokenTree) (cs ds : List Cell) (us : List TokenTree) → ds ≡ cs → CellsFront t ts ds us → CellsFront t ts cs us
with_cells t ts cs ds us same front = subst (λ (es : List Cell). CellsFront t ts es us) same front

more_came : (t : TypeTree) (ts : List TokenTree) (cs : List Cell) (us : List TokenTree) → more_cells t ts ≡ Some (cs, us) → MoreFront t ts cs us
unfolding more_cells
more_came t [] cs us e = absurd cc
more_came t (closing ∷ ts) cs us e = let p = pair_parts [] cs ts us e in inl (ap (λ (r : List TokenTree). closing ∷ r) p.1, sym p.0)
more_came t (comma ∷ []) cs us e = absurd cc
more_came t (comma ∷ x ∷ ts) cs us e =
    let p = preceded_parts t x (token_position t x) (more_cells t ts) cs us refl e in
    inr (record { behind = x ∷ ts; begins = refl; front = with_cells t (x ∷ ts) cs (cells_of (p.position ∷ []) ++ p.more) us p.cells (literal_first t x p.position ts p.more us p.said (more_came t ts p.more us p.read)) })
more_came t (_ ∷ ts) cs us e = absurd cc

cells_came : (t : TypeTree) (ts : List TokenTree) (cs : List Cell) (us : List TokenTree) → cells_at t ts ≡ Some (cs, us) → CellsFront t ts cs us
unfolding cells_at
cells_came t [] cs us e = absurd cc
cells_came t (x ∷ ts) cs us e =
    let p = preceded_parts t x (token_position t x) (more_cells t ts) cs us refl e in
    with_cells t (x ∷ ts) cs (cells_of (p.position ∷ []) ++ p.more) us p.cells (literal_first t x p.position ts p.more us p.said (more_came t ts p.more us p.read))

-- ---- tests

-- a front of the tokens is a test of column k, of type t, with this formula
record TestFront (k : ℕ) (t : TypeTree) (ts : List TokenTree) (f : Formula) (rest : List TokenTree) : Type 0 where
  front : List TokenTree
  condition : Condition
  whole : ts ≡ front ++ rest
  means : IsTest front condition
  says : formula_in k t condition ≡ Some f

test_with : (k : ℕ) (t : TypeTree) (ts front : List TokenTree) (c : Condition) (g f : Formula) (us rest : List TokenTree) → ts ≡ front ++ us → IsTest front c → formula_in k t c ≡ Some g → (g ≡ f) × (us ≡ rest) → TestFront k t ts f rest
test_with k t ts front c g f us rest whole means says same =
    record { front = front; condition = c; whole = whole ∙ ap (λ (r : List TokenTree). front ++ r) same.1; means = means; says = says ∙ ap (λ (h : Formula). Some h) same.0 }

module _ (k : ℕ) (t : TypeTree) (f : Formula) (rest : List TokenTree) where
  members_parts : (ts us : List TokenTree) (after : Option (List TokenTree)) → ts ≡ keyword_token In ∷ opening ∷ us → after_closing us ≡ after → members_from k t us after ≡ Some (f, rest) → TestFront k t ts f rest
  members_parts ts us (Some vs) begins end e =
      test_with k t ts (keyword_token In ∷ opening ∷ closing ∷ []) (listed []) (membership k []) f vs rest (begins ∙ ap (λ (r : List TokenTree). keyword_token In ∷ opening ∷ r) (closing_came us vs end)) in_nothing refl (pair_parts (membership k []) f vs rest e)
  members_parts ts us None begins end e =
      let a = bind_some (cells_at t us) (λ x. Some (member_of k x.0, x.1)) (f, rest) e in
      let c = cells_came t us a.0.0 a.0.1 a.1 in
      let same = pair_parts (member_of k a.0.0) f a.0.1 rest a.2 in
      test_with k t ts (keyword_token In ∷ opening ∷ (c.tokens ++ closing ∷ [])) (listed c.literals) (member_among k c.positions) f a.0.1 rest
      (begins ∙ ap (λ (r : List TokenTree). keyword_token In ∷ opening ∷ r) (c.whole ∙ sym (append_assoc c.tokens (closing ∷ []) a.0.1)))
      (in_literals {ts = c.tokens} {ls = c.literals} c.are) (ap (option_map (member_among k)) c.stand) (sym (some_members k t c.are c.positions c.stand) ∙ ap (member_of k) (sym c.cells) ∙ same.0, same.1)

  members_front : (ts us : List TokenTree) → ts ≡ keyword_token In ∷ us → members_at k t us ≡ Some (f, rest) → TestFront k t ts f rest
  unfolding members_at
  members_front ts us begins e =
      let a = bind_some (after_opening us) (λ vs. members_from k t vs (after_closing vs)) (f, rest) e in
      members_parts ts a.0 (after_closing a.0) (begins ∙ ap (λ (r : List TokenTree). keyword_token In ∷ r) (opening_came us a.0 a.1)) refl a.2

  range_front : (ts us : List TokenTree) → ts ≡ keyword_token Between ∷ us → range_at k t us ≡ Some (f, rest) → TestFront k t ts f rest
  unfolding range_at
  range_front ts us begins e =
      let a = bind_some (position_at t us) (λ lower. after_keyword And lower.1 >>= λ vs. position_at t vs >>= λ upper. Some (range_of k lower.0 upper.0, upper.1)) (f, rest) e in
      let b = bind_some (after_keyword And a.0.1) (λ vs. position_at t vs >>= λ upper. Some (range_of k a.0.0 upper.0, upper.1)) (f, rest) a.2 in
      let c = bind_some (position_at t b.0) (λ upper. Some (range_of k a.0.0 upper.0, upper.1)) (f, rest) b.2 in
      let low = literal_came t us a.0.0 a.0.1 a.1 in
      let high = literal_came t b.0 c.0.0 c.0.1 c.1 in
      let from = token_stands t low.token a.0.0 low.says in
      let to = token_stands t high.token c.0.0 high.says in
      let word = keyword_came And a.0.1 b.0 b.1 in
      test_with k t ts (keyword_token Between ∷ low.token ∷ keyword_token And ∷ high.token ∷ []) (between from.0 to.0) (range_of k a.0.0 c.0.0) f c.0.1 rest
      (begins ∙ ap (λ (r : List TokenTree). keyword_token Between ∷ r) (low.whole ∙ ap (λ (r : List TokenTree). low.token ∷ r) (word ∙ ap (λ (r : List TokenTree). keyword_token And ∷ r) high.whole)))
      (between_literals {x = low.token} {y = high.token} {lower = from.0} {upper = to.0} from.1 to.1) (between_says k t from.0 to.0 a.0.0 c.0.0 from.2 to.2) (pair_parts (range_of k a.0.0 c.0.0) f c.0.1 rest c.2)

-- the escape that a front of the tokens is, or none
record EscapeFront (ts : List TokenTree) (escape : Option ℕ) (us : List TokenTree) : Type 0 where
  front : List TokenTree
  whole : ts ≡ front ++ us
  is : IsEscape front escape

record EscapeSome (o : Option ℕ) (ts : List TokenTree) (escape : Option ℕ) (us : List TokenTree) : Type 0 where
  character : ℕ
  is : o ≡ Some character
  escape_is : ◌≡◌ {A = Option ℕ} (Some character) escape
  rest : ts ≡ us

escape_some : (o : Option ℕ) (ts : List TokenTree) (escape : Option ℕ) (us : List TokenTree) → escape_then o ts ≡ Some (escape, us) → EscapeSome o ts escape us
escape_some None ts escape us e = absurd cc
escape_some (Some c) ts escape us e =
    let made : Option ℕ = Some c in
    let same = pair_parts made escape ts us e in
    record { character = c; is = refl; escape_is = same.0; rest = same.1 }

only_came : (cs : List ℕ) (c : ℕ) → only_one cs ≡ Some c → cs ≡ c ∷ []
only_came [] c e = absurd cc
only_came (d ∷ []) c e = ap (λ (x : ℕ). x ∷ []) (some_is d c e)
only_came (d ∷ x ∷ cs) c e = absurd cc

escape_came : (ts : List TokenTree) (escape : Option ℕ) (us : List TokenTree) → escape_at ts ≡ Some (escape, us) → EscapeFront ts escape us
unfolding escape_at
escape_came ts escape us e =
    let none : Option ℕ = None in
    elim (chosen_some (after_keyword Escape ts) (λ vs. string_at vs >>= λ x. escape_then (only_one (chars x.0)) x.1) (Some (none, ts)) (escape, us) e) [
      | inl p ↦
          let a = bind_some (string_at p.0) (λ x. escape_then (only_one (chars x.0)) x.1) (escape, us) p.2 in
          let b = escape_some (only_one (chars a.0.0)) a.0.1 escape us a.2 in
          record {
            front = keyword_token Escape ∷ string_token a.0.0 ∷ [];
            whole = keyword_came Escape ts p.0 p.1 ∙ ap (λ (r : List TokenTree). keyword_token Escape ∷ r) (string_came p.0 a.0.0 a.0.1 a.1 ∙ ap (λ (r : List TokenTree). string_token a.0.0 ∷ r) b.rest);
            is = subst (λ (o : Option ℕ). IsEscape (keyword_token Escape ∷ string_token a.0.0 ∷ []) o) b.escape_is (escaped_by {bs = a.0.0} {c = b.character} (only_came (chars a.0.0) b.character b.is));
          }
      | inr d ↦ let same = pair_parts none escape ts us d in record { front = []; whole = same.1; is = subst (λ (o : Option ℕ). IsEscape [] o) same.0 unescaped }
    ]

module _ (k : ℕ) (t : TypeTree) (f : Formula) (rest : List TokenTree) where
  like_by : (case : Case) (ts : List TokenTree) (pattern : List ℕ) (vs : List TokenTree) (escape : Option ℕ) (us : List TokenTree) (parts : List Part) (g : Formula) → ts ≡ keyword_token (like_keyword case) ∷ string_token pattern ∷ vs → EscapeFront vs escape us
      → pattern_of escape (chars pattern) ≡ Some parts → like_in k t case parts ≡ Some g → (g ≡ f) × (us ≡ rest) → TestFront k t ts f rest
  like_by Sensitive ts pattern vs escape us parts g begins e is says same =
      test_with k t ts (keyword_token Like ∷ string_token pattern ∷ e.front) (alike Sensitive parts) g f us rest (begins ∙ ap (λ (r : List TokenTree). keyword_token Like ∷ string_token pattern ∷ r) e.whole)
      (like_pattern {pattern = pattern} {ts = e.front} {escape = escape} {parts = parts} e.is is) says same
  like_by Insensitive ts pattern vs escape us parts g begins e is says same =
      test_with k t ts (keyword_token Ilike ∷ string_token pattern ∷ e.front) (alike Insensitive parts) g f us rest (begins ∙ ap (λ (r : List TokenTree). keyword_token Ilike ∷ string_token pattern ∷ r) e.whole)
      (ilike_pattern {pattern = pattern} {ts = e.front} {escape = escape} {parts = parts} e.is is) says same

  like_front : (case : Case) (ts us : List TokenTree) → ts ≡ keyword_token (like_keyword case) ∷ us → like_at k t case us ≡ Some (f, rest) → TestFront k t ts f rest
  unfolding like_at
  like_front case ts us begins e =
      let a = bind_some (string_at us) (λ pattern. escape_at pattern.1 >>= λ escape. pattern_of escape.0 (chars pattern.0) >>= λ parts. like_in k t case parts >>= λ g. Some (g, escape.1)) (f, rest) e in
      let b = bind_some (escape_at a.0.1) (λ escape. pattern_of escape.0 (chars a.0.0) >>= λ parts. like_in k t case parts >>= λ g. Some (g, escape.1)) (f, rest) a.2 in
      let c = bind_some (pattern_of b.0.0 (chars a.0.0)) (λ parts. like_in k t case parts >>= λ g. Some (g, b.0.1)) (f, rest) b.2 in
      let d = bind_some (like_in k t case c.0) (λ g. Some (g, b.0.1)) (f, rest) c.2 in
      like_by case ts a.0.0 a.0.1 b.0.0 b.0.1 c.0 d.0 (begins ∙ ap (λ (r : List TokenTree). keyword_token (like_keyword case) ∷ r) (string_came us a.0.0 a.0.1 a.1)) (escape_came a.0.1 b.0.0 b.0.1 b.1) c.1 d.1 (pair_parts d.0 f b.0.1 rest d.2)

  test_front : (ts : List TokenTree) → test_at k t ts ≡ Some (f, rest) → TestFront k t ts f rest
  unfolding test_at
  test_front ts e =
      elim (chosen_some (after_keyword In ts) (members_at k t) (chosen (after_keyword Between ts) (range_at k t) (chosen (after_keyword Ilike ts) (like_at k t Insensitive) (after_keyword Like ts >>= like_at k t Sensitive))) (f, rest) e) [
        | inl p ↦ members_front k t f rest ts p.0 (keyword_came In ts p.0 p.1) p.2
        | inr d ↦ elim (chosen_some (after_keyword Between ts) (range_at k t) (chosen (after_keyword Ilike ts) (like_at k t Insensitive) (after_keyword Like ts >>= like_at k t Sensitive)) (f, rest) d) [
          | inl q ↦ range_front k t f rest ts q.0 (keyword_came Between ts q.0 q.1) q.2
          | inr i ↦ elim (chosen_some (after_keyword Ilike ts) (like_at k t Insensitive) (after_keyword Like ts >>= like_at k t Sensitive) (f, rest) i) [
            | inl r ↦ like_front Insensitive ts r.0 (keyword_came Ilike ts r.0 r.1) r.2
            | inr l ↦ let a = bind_some (after_keyword Like ts) (like_at k t Sensitive) (f, rest) l in like_front Sensitive ts a.0 (keyword_came Like ts a.0 a.1) a.2
          ]
        ]
      ]

-- ---- conditions

record ConditionFront (k : ℕ) (t : TypeTree) (ts : List TokenTree) (f : Formula) (rest : List TokenTree) : Type 0 where
  front : List TokenTree
  condition : Condition
  whole : ts ≡ front ++ rest
  means : IsCondition front condition
  says : formula_in k t condition ≡ Some f

condition_with : (k : ℕ) (t : TypeTree) (ts front : List TokenTree) (c : Condition) (g f : Formula) (us rest : List TokenTree) → ts ≡ front ++ us → IsCondition front c → formula_in k t c ≡ Some g → (g ≡ f) × (us ≡ rest) → ConditionFront k t ts f rest
condition_with k t ts front c g f us rest whole means says same =
    record { front = front; condition = c; whole = whole ∙ ap (λ (r : List TokenTree). front ++ r) same.1; means = means; says = says ∙ ap (λ (h : Formula). Some h) same.0 }

module _ (k : ℕ) (t : TypeTree) (f : Formula) (rest : List TokenTree) where
  comparison_front : (ts : List TokenTree) (op : CompareOperator) (us : List TokenTree) → ts ≡ operator_token op ∷ us → comparison_at k t op us ≡ Some (f, rest) → ConditionFront k t ts f rest
  unfolding comparison_at
  comparison_front ts op us begins e =
      let a = bind_some (position_at t us) (λ x. Some (comparison_of k op x.0, x.1)) (f, rest) e in
      let l = literal_came t us a.0.0 a.0.1 a.1 in
      let s = token_stands t l.token a.0.0 l.says in
      condition_with k t ts (operator_token op ∷ l.token ∷ []) (compared op s.0) (comparison_of k op a.0.0) f a.0.1 rest (begins ∙ ap (λ (r : List TokenTree). operator_token op ∷ r) l.whole) (compares {op = op} {x = l.token} {l = s.0} s.1) (ap (option_map (comparison_of k op)) s.2) (pair_parts (comparison_of k op a.0.0) f a.0.1 rest a.2)

  null_front : (ts us : List TokenTree) → ts ≡ keyword_token Is ∷ us → null_test_at k us ≡ Some (f, rest) → ConditionFront k t ts f rest
  unfolding null_test_at
  null_front ts us begins e =
      elim (chosen_some (after_keyword Not us) (λ vs. after_keyword Null vs >>= λ ws. Some (negation (null_test k), ws)) (after_keyword Null us >>= λ vs. Some (null_test k, vs)) (f, rest) e) [
        | inl p ↦
            let a = bind_some (after_keyword Null p.0) (λ ws. Some (negation (null_test k), ws)) (f, rest) p.2 in
            condition_with k t ts (keyword_token Is ∷ keyword_token Not ∷ keyword_token Null ∷ []) (denied missing) (negation (null_test k)) f a.0 rest
            (begins ∙ ap (λ (r : List TokenTree). keyword_token Is ∷ r) (keyword_came Not us p.0 p.1 ∙ ap (λ (r : List TokenTree). keyword_token Not ∷ r) (keyword_came Null p.0 a.0 a.1)))
            is_not_null refl (pair_parts (negation (null_test k)) f a.0 rest a.2)
        | inr d ↦
            let a = bind_some (after_keyword Null us) (λ vs. Some (null_test k, vs)) (f, rest) d in
            condition_with k t ts (keyword_token Is ∷ keyword_token Null ∷ []) missing (null_test k) f a.0 rest
            (begins ∙ ap (λ (r : List TokenTree). keyword_token Is ∷ r) (keyword_came Null us a.0 a.1))
            is_null refl (pair_parts (null_test k) f a.0 rest a.2)
      ]

  not_front : (ts us : List TokenTree) (inner : Read) → ts ≡ keyword_token Not ∷ us → test_at k t us ≡ inner → negated inner ≡ Some (f, rest) → ConditionFront k t ts f rest
  not_front ts us None begins read e = absurd cc
  not_front ts us (Some (g, vs)) begins read e =
      let front = test_front k t g vs us read in
      condition_with k t ts (keyword_token Not ∷ front.front) (denied front.condition) (negation g) f vs rest (begins ∙ ap (λ (r : List TokenTree). keyword_token Not ∷ r) front.whole) (not_test {ts = front.front} {c = front.condition} front.means) (ap (option_map negation) front.says) (pair_parts (negation g) f vs rest e)

  bare_front : (ts : List TokenTree) → test_at k t ts ≡ Some (f, rest) → ConditionFront k t ts f rest
  bare_front ts e = let front = test_front k t f rest ts e in record { front = front.front; condition = front.condition; whole = front.whole; means = bare_test {ts = front.front} {c = front.condition} front.means; says = front.says }

  condition_front : (ts : List TokenTree) → condition_at k t ts ≡ Some (f, rest) → ConditionFront k t ts f rest
  unfolding condition_at
  condition_front ts e =
      elim (chosen_some (operator_at ts) (λ x. comparison_at k t x.0 x.1) (chosen (after_keyword Is ts) (null_test_at k) (chosen (after_keyword Not ts) (λ us. negated (test_at k t us)) (test_at k t ts))) (f, rest) e) [
        | inl p ↦ comparison_front ts p.0.0 p.0.1 (operator_came ts p.0.0 p.0.1 p.1) p.2
        | inr d ↦ elim (chosen_some (after_keyword Is ts) (null_test_at k) (chosen (after_keyword Not ts) (λ us. negated (test_at k t us)) (test_at k t ts)) (f, rest) d) [
          | inl q ↦ null_front ts q.0 (keyword_came Is ts q.0 q.1) q.2
          | inr g ↦ elim (chosen_some (after_keyword Not ts) (λ us. negated (test_at k t us)) (test_at k t ts) (f, rest) g) [
            | inl r ↦ not_front ts r.0 (test_at k t r.0) (keyword_came Not ts r.0 r.1) refl r.2
            | inr h ↦ bare_front ts h
          ]
        ]
      ]

-- ---- predicates

-- what was read is a front of the tokens
pub record PredicateFront (columns : List ColumnTree) (ts : List TokenTree) (f : Formula) (rest : List TokenTree) : Type 0 where
  pub front : List TokenTree
  pub whole : ts ≡ front ++ rest
  pub means : IsPredicate columns front f

predicate_with : (columns : List ColumnTree) (ts front : List TokenTree) (g f : Formula) (us rest : List TokenTree) → ts ≡ front ++ us → IsPredicate columns front g → (g ≡ f) × (us ≡ rest) → PredicateFront columns ts f rest
predicate_with columns ts front g f us rest whole means same = record { front = front; whole = whole ∙ ap (λ (r : List TokenTree). front ++ r) same.1; means = subst (λ (h : Formula). IsPredicate columns front h) same.0 means }

call_came : (k : ℕ) (t : TypeTree) (p : PositionTree) (f : Formula) → prefix_in (k, t) p ≡ Some f → (holds_strings t ≡ true) × (prefix_of k p ≡ Some f)
unfolding prefix_in
call_came k t p f e = guard_some (holds_strings t) (prefix_of k p) f e

module _ (columns : List ColumnTree) (f : Formula) (rest : List TokenTree) where
  on_column_front : (ts : List TokenTree) (name : List ℕ) (us : List TokenTree) (column : Option (ℕ × TypeTree)) → ts ≡ name_token name ∷ us → column_named columns name ≡ column → condition_of column us ≡ Some (f, rest) → PredicateFront columns ts f rest
  on_column_front ts name us None begins named e = absurd cc
  on_column_front ts name us (Some (k, t)) begins named e =
      let front = condition_front k t f rest us e in
      record { front = name_token name ∷ front.front; whole = begins ∙ ap (λ (r : List TokenTree). name_token name ∷ r) front.whole; means = on_column {name = name} {k = k} {t = t} {ts = front.front} {c = front.condition} {f = f} named front.means front.says }

  call_front : (ts us : List TokenTree) → ts ≡ keyword_token StartsWith ∷ us → prefix_call_at columns us ≡ Some (f, rest) → PredicateFront columns ts f rest
  unfolding prefix_call_at
  call_front ts us begins e =
      let a = bind_some (after_opening us) (λ vs. name_at vs >>= λ name. column_named columns name.0 >>= λ column. after_comma name.1 >>= λ ws. position_at column.1 ws >>= λ prefix. after_closing prefix.1 >>= λ xs. prefix_in column prefix.0 >>= λ g. Some (g, xs)) (f, rest) e in
      let b = bind_some (name_at a.0) (λ name. column_named columns name.0 >>= λ column. after_comma name.1 >>= λ ws. position_at column.1 ws >>= λ prefix. after_closing prefix.1 >>= λ xs. prefix_in column prefix.0 >>= λ g. Some (g, xs)) (f, rest) a.2 in
      let c = bind_some (column_named columns b.0.0) (λ column. after_comma b.0.1 >>= λ ws. position_at column.1 ws >>= λ prefix. after_closing prefix.1 >>= λ xs. prefix_in column prefix.0 >>= λ g. Some (g, xs)) (f, rest) b.2 in
      let d = bind_some (after_comma b.0.1) (λ ws. position_at c.0.1 ws >>= λ prefix. after_closing prefix.1 >>= λ xs. prefix_in c.0 prefix.0 >>= λ g. Some (g, xs)) (f, rest) c.2 in
      let l = bind_some (position_at c.0.1 d.0) (λ prefix. after_closing prefix.1 >>= λ xs. prefix_in c.0 prefix.0 >>= λ g. Some (g, xs)) (f, rest) d.2 in
      let m = bind_some (after_closing l.0.1) (λ xs. prefix_in c.0 l.0.0 >>= λ g. Some (g, xs)) (f, rest) l.2 in
      let p = bind_some (prefix_in c.0 l.0.0) (λ g. Some (g, m.0)) (f, rest) m.2 in
      let came = literal_came c.0.1 d.0 l.0.0 l.0.1 l.1 in
      let call = call_came c.0.0 c.0.1 l.0.0 p.0 p.1 in
      let s = token_stands c.0.1 came.token l.0.0 came.says in
      predicate_with columns ts (keyword_token StartsWith ∷ opening ∷ name_token b.0.0 ∷ comma ∷ came.token ∷ closing ∷ []) p.0 f m.0 rest
      (begins ∙ ap (λ (r : List TokenTree). keyword_token StartsWith ∷ r) (opening_came us a.0 a.1 ∙ ap (λ (r : List TokenTree). opening ∷ r) (name_came a.0 b.0.0 b.0.1 b.1 ∙ ap (λ (r : List TokenTree). name_token b.0.0 ∷ r) (comma_came b.0.1 d.0 d.1 ∙ ap (λ (r : List TokenTree). comma ∷ r) (came.whole ∙ ap (λ (r : List TokenTree). came.token ∷ r) (closing_came l.0.1 m.0 m.1))))))
      (prefix_call {name = b.0.0} {k = c.0.0} {t = c.0.1} {x = came.token} {l = s.0} {f = p.0} c.1 s.1 (begun_says c.0.0 c.0.1 s.0 l.0.0 p.0 call.0 s.2 call.1)) (pair_parts p.0 f m.0 rest p.2)

  constant_front : (ts : List TokenTree) → constant_at ts ≡ Some (f, rest) → PredicateFront columns ts f rest
  unfolding constant_at
  constant_front (keyword_token True ∷ ts) e = predicate_with columns (keyword_token True ∷ ts) (keyword_token True ∷ []) (constant truths.True) f ts rest refl says_true (pair_parts (constant truths.True) f ts rest e)
  constant_front (keyword_token False ∷ ts) e = predicate_with columns (keyword_token False ∷ ts) (keyword_token False ∷ []) (constant truths.False) f ts rest refl says_false (pair_parts (constant truths.False) f ts rest e)
  constant_front (keyword_token Null ∷ ts) e = predicate_with columns (keyword_token Null ∷ ts) (keyword_token Null ∷ []) (constant truths.Unknown) f ts rest refl says_null (pair_parts (constant truths.Unknown) f ts rest e)
  constant_front _ e = absurd cc

pub predicate_front : (columns : List ColumnTree) (ts : List TokenTree) (f : Formula) (rest : List TokenTree) → predicate_at columns ts ≡ Some (f, rest) → PredicateFront columns ts f rest
unfolding predicate_at
predicate_front columns ts f rest e =
    elim (chosen_some (name_at ts) (λ x. condition_of (column_named columns x.0) x.1) (chosen (after_keyword StartsWith ts) (prefix_call_at columns) (constant_at ts)) (f, rest) e) [
      | inl p ↦ on_column_front columns f rest ts p.0.0 p.0.1 (column_named columns p.0.0) (name_came ts p.0.0 p.0.1 p.1) refl p.2
      | inr d ↦ elim (chosen_some (after_keyword StartsWith ts) (prefix_call_at columns) (constant_at ts) (f, rest) d) [
        | inl q ↦ call_front columns f rest ts q.0 (keyword_came StartsWith ts q.0 q.1) q.2
        | inr g ↦ constant_front columns f rest ts g
      ]
    ]
