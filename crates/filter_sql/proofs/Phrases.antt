-- The text that is printed part by part is the text of the tokens.
use Rattle.std.proofs.Common.{◌≡◌, ℕ, pos, negsuc, Bool, true, false, List, [], ◌∷◌, ◌++◌, Option, Some, None, drop, codes, refl, sym, ap, ◌∙◌, append_assoc, append-nil}
use Rattle.std.specs.List.{list_any}
use Rattle.std.specs.Str.{encode_utf8_all}
use Rattle.like_patterns.specs.declared.case.Case.{Case}
use Rattle.like_patterns.specs.declared.case.Case.TheVariants.{Sensitive, Insensitive}
use Rattle.like_patterns.specs.Patterns.{Part}
use Rattle.like_patterns.specs.Texts.{has_special, pattern_text}
use Rattle.vortex_cells.specs.Cells.{Cell}
use Rattle.vortex_value.specs.Values.Content.{Content, null, truth, whole, text, string, sequence, tagged, typed}
use Rattle.vortex_filter.specs.declared.operator.CompareOperator.{CompareOperator}
use Rattle.filter_sql.specs.declared.print.Level.{Level}
use Rattle.filter_sql.specs.declared.print.Level.TheVariants as levels
use Rattle.filter_sql.specs.declared.token.Keyword.{Keyword}
use Rattle.filter_sql.specs.declared.token.Keyword.TheVariants as keywords
use Rattle.vortex_filter.specs.declared.truth.Truth.TheVariants as truths
use Rattle.vortex_filter.specs.Formula.{Formula, constant, comparison, null_test, membership, range, prefix_test, pattern_test, both, either, negation}
use Rattle.filter_sql.specs.Tokens.{TokenTree, keyword_token, string_token, operator_token, opening, closing, comma, canonical, gap, is_close_behind, is_opening, is_starts_with, keyword_text, quoted, spelling}
use Rattle.filter_sql.specs.Literals.{like_keyword}
use Rattle.filter_sql.specs.LiteralWords.{LiteralWords, WordTree, bare_word, first_word, quoted_word, words_behind}
use Rattle.filter_sql.specs.Printing.{column_token, comparison_tokens, content_token, escape_tokens, grouped, groups_and, groups_or, is_special, like_tokens, printed_content, literal_token, literal_tokens, membership_tokens, null_test_tokens, pattern_tokens, prefix_pattern, prefix_tokens, range_tokens, starts_with_tokens, tokens_at}
use Rattle.filter_sql.specs.Pieces.{column_text, comparison_text, escape_text, group_text, like_text, like_word, literal_text, literals_text, membership_text, null_test_text, pattern_test_text, prefix_text, range_text, starts_with_text, text_at}

-- ---- two lists, one behind the other

abbrev pub last_of : TokenTree → List TokenTree → TokenTree
last_of t [] = t
last_of t (u ∷ us) = last_of u us

last_behind : (t : TokenTree) (ts : List TokenTree) (u : TokenTree) (us : List TokenTree) → last_of t (ts ++ (u ∷ us)) ≡ last_of u us
last_behind t [] u us = refl
last_behind t (v ∷ ts) u us = last_behind v ts u us

canonical_append : (t : TokenTree) (ts : List TokenTree) (u : TokenTree) (us : List TokenTree) → canonical ((t ∷ ts) ++ (u ∷ us)) ≡ canonical (t ∷ ts) ++ (gap (last_of t ts) u ++ canonical (u ∷ us))
canonical_append t [] u us = refl
canonical_append t (v ∷ ts) u us =
    ap (λ (l : List ℕ). spelling t ++ (gap t v ++ l)) (canonical_append v ts u us)
    ∙ ap (λ (l : List ℕ). spelling t ++ l) (sym (append_assoc (gap t v) (canonical (v ∷ ts)) (gap (last_of v ts) u ++ canonical (u ∷ us))))
    ∙ sym (append_assoc (spelling t) (gap t v ++ canonical (v ∷ ts)) (gap (last_of v ts) u ++ canonical (u ∷ us)))

-- tokens that stand apart from words before and behind them
pub record IsPhrase (ts : List TokenTree) : Type 0 where
  pub first : TokenTree
  pub rest : List TokenTree
  pub whole : ts ≡ first ∷ rest
  pub apart : (t : TokenTree) → is_starts_with t ≡ false → is_close_behind first t ≡ false
  pub closed : is_opening (last_of first rest) ≡ false

-- the tokens have this text, and stand apart
pub record IsPrinted (ts : List TokenTree) (bs : List ℕ) : Type 0 where
  pub text : canonical ts ≡ bs
  pub phrase : IsPhrase ts

-- ---- connectives

joined_text : (t : TokenTree) (ts : List TokenTree) (u : TokenTree) (us : List TokenTree) (k : Keyword) → is_opening (last_of t ts) ≡ false → is_close_behind u (keyword_token k) ≡ false
    → canonical ((t ∷ ts) ++ (keyword_token k ∷ u ∷ us)) ≡ canonical (t ∷ ts) ++ (codes " " ++ (keyword_text k ++ (codes " " ++ canonical (u ∷ us))))
joined_text t ts u us k closed apart = canonical_append t ts (keyword_token k) (u ∷ us) ∙ rw (closed, apart) refl

joined_printed : (xs ys : List TokenTree) (k : Keyword) (a b : List ℕ) → is_starts_with (keyword_token k) ≡ false → IsPrinted xs a → IsPrinted ys b
    → IsPrinted (xs ++ (keyword_token k ∷ ys)) (a ++ (codes " " ++ (keyword_text k ++ (codes " " ++ b))))
joined_printed xs ys k a b word p q =
    let x = p.phrase in
    let y = q.phrase in
    let tokens : xs ++ (keyword_token k ∷ ys) ≡ (x.first ∷ x.rest) ++ (keyword_token k ∷ y.first ∷ y.rest) = (λ i. x.whole i ++ (keyword_token k ∷ y.whole i)) in
    let left : canonical (x.first ∷ x.rest) ≡ a = ap canonical (sym x.whole) ∙ p.text in
    let right : canonical (y.first ∷ y.rest) ≡ b = ap canonical (sym y.whole) ∙ q.text in
    record {
      text = ap canonical tokens ∙ joined_text x.first x.rest y.first y.rest k x.closed (y.apart (keyword_token k) word)
          ∙ (λ i. left i ++ (codes " " ++ (keyword_text k ++ (codes " " ++ right i))));
      phrase = record {
        first = x.first;
        rest = x.rest ++ (keyword_token k ∷ y.first ∷ y.rest);
        whole = tokens;
        apart = x.apart;
        closed = ap is_opening (last_behind x.first x.rest (keyword_token k) (y.first ∷ y.rest)) ∙ y.closed;
      };
    }

group_of : (t : TokenTree) (ts : List TokenTree) → is_opening (last_of t ts) ≡ false → canonical (opening ∷ ((t ∷ ts) ++ closing ∷ [])) ≡ codes "(" ++ (canonical (t ∷ ts) ++ codes ")")
group_of t ts closed = ap (λ (l : List ℕ). codes "(" ++ l) (canonical_append t ts closing [] ∙ rw closed refl)

grouped_printed : (g : Bool) (ts : List TokenTree) (bs : List ℕ) → IsPrinted ts bs → IsPrinted (grouped g ts) (group_text g bs)
grouped_printed true ts bs p =
    let x = p.phrase in
    let tokens : opening ∷ (ts ++ closing ∷ []) ≡ opening ∷ ((x.first ∷ x.rest) ++ closing ∷ []) = ap (λ (l : List TokenTree). opening ∷ (l ++ closing ∷ [])) x.whole in
    let inner : canonical (x.first ∷ x.rest) ≡ bs = ap canonical (sym x.whole) ∙ p.text in
    record {
      text = ap canonical tokens ∙ group_of x.first x.rest x.closed ∙ ap (λ (l : List ℕ). codes "(" ++ (l ++ codes ")")) inner;
      phrase = record {
        first = opening;
        rest = ts ++ closing ∷ [];
        whole = refl;
        apart = λ t word. word;
        closed = ap is_opening (last_behind opening ts closing []);
      };
    }
grouped_printed false ts bs p = record { text = p.text ∙ sym (append-nil bs); phrase = p.phrase }

denied_printed : (ts : List TokenTree) (bs : List ℕ) → IsPrinted ts bs → IsPrinted (keyword_token keywords.Not ∷ ts) (codes "not " ++ bs)
denied_printed ts bs p =
    let x = p.phrase in
    let near : is_close_behind x.first (keyword_token keywords.Not) ≡ false = x.apart (keyword_token keywords.Not) refl in
    let inner : canonical (x.first ∷ x.rest) ≡ bs = ap canonical (sym x.whole) ∙ p.text in
    let spaced : canonical (keyword_token keywords.Not ∷ x.first ∷ x.rest) ≡ codes "not " ++ canonical (x.first ∷ x.rest) = rw near refl in
    record {
      text = ap (λ (l : List TokenTree). canonical (keyword_token keywords.Not ∷ l)) x.whole ∙ spaced ∙ ap (λ (l : List ℕ). codes "not " ++ l) inner;
      phrase = record {
        first = keyword_token keywords.Not;
        rest = ts;
        whole = refl;
        apart = λ t word. refl;
        closed = ap (λ (l : List TokenTree). is_opening (last_of (keyword_token keywords.Not) l)) x.whole ∙ x.closed;
      };
    }

-- ---- literals

content_apart : (c : Content) (t : TokenTree) → is_close_behind (content_token c) t ≡ false
content_apart null t = refl
content_apart (truth b) t = refl
content_apart (whole (pos n)) t = refl
content_apart (whole (negsuc n)) t = refl
content_apart (text bs) t = refl
content_apart (string bs) t = refl
content_apart (sequence cs) t = refl
content_apart (tagged n c) t = refl
content_apart (typed t' c) t = refl

content_closed : (c : Content) → is_opening (content_token c) ≡ false
content_closed null = refl
content_closed (truth b) = refl
content_closed (whole z) = refl
content_closed (text bs) = refl
content_closed (string bs) = refl
content_closed (sequence cs) = refl
content_closed (tagged n c) = refl
content_closed (typed t c) = refl

literal_apart : (w : Option WordTree) (x : Cell) (t : TokenTree) → is_close_behind (literal_token w x) t ≡ false
literal_apart None x t = content_apart (printed_content x) t
literal_apart (Some (bare_word word)) x t = refl
literal_apart (Some (quoted_word word)) x t = refl

literal_closed : (w : Option WordTree) (x : Cell) → is_opening (literal_token w x) ≡ false
literal_closed None x = content_closed (printed_content x)
literal_closed (Some (bare_word word)) x = refl
literal_closed (Some (quoted_word word)) x = refl

comma_text : (ws : LiteralWords) (y : Cell) (ys : List Cell) → canonical (comma ∷ (literal_tokens ws (y ∷ ys) ++ closing ∷ [])) ≡ codes ", " ++ canonical (literal_tokens ws (y ∷ ys) ++ closing ∷ [])
comma_text ws y [] = rw (literal_apart (first_word ws) y comma) refl
comma_text ws y (z ∷ zs) = rw (literal_apart (first_word ws) y comma) refl

opening_text : (ws : LiteralWords) (x : Cell) (xs : List Cell) → canonical (opening ∷ (literal_tokens ws (x ∷ xs) ++ closing ∷ [])) ≡ codes "(" ++ canonical (literal_tokens ws (x ∷ xs) ++ closing ∷ [])
opening_text ws x [] = refl
opening_text ws x (y ∷ ys) = refl

closed_text : (ws : LiteralWords) (x : Cell) (xs : List Cell) → canonical (literal_tokens ws (x ∷ xs) ++ closing ∷ []) ≡ literals_text ws (x ∷ xs) ++ codes ")"
closed_text ws x [] = rw (literal_closed (first_word ws) x) (ap (λ (l : List ℕ). l ++ codes ")") (sym (append-nil (literal_text (first_word ws) x))))
closed_text ws x (y ∷ ys) =
    let text : List ℕ = literal_text (first_word ws) x in
    let more : LiteralWords = drop 1 ws in
    let first : canonical (literal_tokens ws (x ∷ y ∷ ys) ++ closing ∷ []) ≡ text ++ canonical (comma ∷ (literal_tokens more (y ∷ ys) ++ closing ∷ [])) = rw (literal_closed (first_word ws) x) refl in
    let rest : canonical (comma ∷ (literal_tokens more (y ∷ ys) ++ closing ∷ [])) ≡ codes ", " ++ (literals_text more (y ∷ ys) ++ codes ")") = comma_text more y ys ∙ ap (λ (l : List ℕ). codes ", " ++ l) (closed_text more y ys) in
    first ∙ ap (λ (l : List ℕ). text ++ l) rest ∙ sym (append_assoc text (codes ", " ++ literals_text more (y ∷ ys)) (codes ")"))

literals_printed : (ws : LiteralWords) (xs : List Cell) → canonical (opening ∷ (literal_tokens ws xs ++ closing ∷ [])) ≡ codes "(" ++ (literals_text ws xs ++ codes ")")
literals_printed ws [] = refl
literals_printed ws (x ∷ xs) = opening_text ws x xs ∙ ap (λ (l : List ℕ). codes "(" ++ l) (closed_text ws x xs)

-- ---- tests of one column

module _ (names : List (List ℕ)) (k : ℕ) where
  column_phrase : (ts : List TokenTree) → is_opening (last_of (column_token names k) ts) ≡ false → IsPhrase (column_token names k ∷ ts)
  column_phrase ts closed = record { first = column_token names k; rest = ts; whole = refl; apart = λ t word. refl; closed = closed }

  comparison_printed : (ws : LiteralWords) (op : CompareOperator) (x : Cell) → IsPrinted (comparison_tokens names ws k op x) (comparison_text names ws k op x)
  comparison_printed ws op x = record {
    text = rw (literal_apart (first_word ws) x (operator_token op)) refl;
    phrase = column_phrase (operator_token op ∷ literal_token (first_word ws) x ∷ []) (literal_closed (first_word ws) x);
  }

  null_test_printed : (negated : Bool) → IsPrinted (column_token names k ∷ null_test_tokens negated) (null_test_text names k negated)
  null_test_printed true = record { text = refl; phrase = column_phrase (null_test_tokens true) refl }
  null_test_printed false = record { text = refl; phrase = column_phrase (null_test_tokens false) refl }

  membership_printed : (negated : Bool) (ws : LiteralWords) (xs : List Cell) → IsPrinted (column_token names k ∷ membership_tokens negated ws xs) (membership_text names ws k negated xs)
  membership_printed true ws xs = record {
    text = rw (literals_printed ws xs) refl;
    phrase = column_phrase (membership_tokens true ws xs) (ap is_opening (last_behind opening (literal_tokens ws xs) closing []));
  }
  membership_printed false ws xs = record {
    text = rw (literals_printed ws xs) refl;
    phrase = column_phrase (membership_tokens false ws xs) (ap is_opening (last_behind opening (literal_tokens ws xs) closing []));
  }

  range_printed : (negated : Bool) (ws : LiteralWords) (x y : Cell) → IsPrinted (column_token names k ∷ range_tokens negated ws x y) (range_text names ws k negated x y)
  range_printed true ws x y = record {
    text = rw (literal_apart (first_word ws) x (keyword_token keywords.Between), literal_closed (first_word ws) x, literal_apart (first_word (drop 1 ws)) y (keyword_token keywords.And)) refl;
    phrase = column_phrase (range_tokens true ws x y) (literal_closed (first_word (drop 1 ws)) y);
  }
  range_printed false ws x y = record {
    text = rw (literal_apart (first_word ws) x (keyword_token keywords.Between), literal_closed (first_word ws) x, literal_apart (first_word (drop 1 ws)) y (keyword_token keywords.And)) refl;
    phrase = column_phrase (range_tokens false ws x y) (literal_closed (first_word (drop 1 ws)) y);
  }

  like_printed : (prefix : List ℕ) → IsPrinted (like_tokens (column_token names k) prefix) (like_text names k prefix)
  like_printed prefix = by_test (list_any is_special prefix) refl
    where
      by_test : (special : Bool) → list_any is_special prefix ≡ special → IsPrinted (like_tokens (column_token names k) prefix) (like_text names k prefix)
      by_test true is = record {
        text = rw is refl;
        phrase = column_phrase (keyword_token keywords.Like ∷ string_token (prefix_pattern prefix) ∷ escape_tokens (list_any is_special prefix)) (rw is refl);
      }
      by_test false is = record {
        text = rw is (ap (λ (l : List ℕ). spelling (column_token names k) ++ (codes " like " ++ l)) (sym (append-nil (quoted 39 (prefix_pattern prefix)))));
        phrase = column_phrase (keyword_token keywords.Like ∷ string_token (prefix_pattern prefix) ∷ escape_tokens (list_any is_special prefix)) (rw is refl);
      }

  -- a pattern, and that `\` escapes in it
  compared_printed : (case : Case) (pattern : List ℕ) (special : Bool) → IsPrinted (column_token names k ∷ keyword_token (like_keyword case) ∷ string_token pattern ∷ escape_tokens special) (column_text names k ++ (like_word case ++ (quoted 39 pattern ++ escape_text special)))
  compared_printed Sensitive pattern true = record { text = refl; phrase = column_phrase (keyword_token keywords.Like ∷ string_token pattern ∷ escape_tokens true) refl }
  compared_printed Insensitive pattern true = record { text = refl; phrase = column_phrase (keyword_token keywords.Ilike ∷ string_token pattern ∷ escape_tokens true) refl }
  compared_printed Sensitive pattern false = record {
    text = ap (λ (l : List ℕ). spelling (column_token names k) ++ (codes " like " ++ l)) (sym (append-nil (quoted 39 pattern)));
    phrase = column_phrase (keyword_token keywords.Like ∷ string_token pattern ∷ escape_tokens false) refl;
  }
  compared_printed Insensitive pattern false = record {
    text = ap (λ (l : List ℕ). spelling (column_token names k) ++ (codes " ilike " ++ l)) (sym (append-nil (quoted 39 pattern)));
    phrase = column_phrase (keyword_token keywords.Ilike ∷ string_token pattern ∷ escape_tokens false) refl;
  }

  pattern_test_printed : (case : Case) (parts : List Part) → IsPrinted (column_token names k ∷ pattern_tokens case parts) (pattern_test_text names k case parts)
  pattern_test_printed case parts = compared_printed case (encode_utf8_all (pattern_text parts)) (has_special parts)

  starts_with_printed : (w : Option WordTree) (x : Cell) → IsPrinted (starts_with_tokens (column_token names k) (literal_token w x)) (starts_with_text names k (literal_text w x))
  starts_with_printed w x = record {
    text = rw (literal_apart w x comma, literal_closed w x) refl;
    phrase = record {
      first = keyword_token keywords.StartsWith;
      rest = opening ∷ column_token names k ∷ comma ∷ literal_token w x ∷ closing ∷ [];
      whole = refl;
      apart = λ t word. refl;
      closed = refl;
    };
  }

  prefix_printed : (w : Option WordTree) (x : Cell) (c : Content) → IsPrinted (prefix_tokens (column_token names k) (literal_token w x) c) (prefix_text names k (literal_text w x) c)
  prefix_printed w x null = starts_with_printed w x
  prefix_printed w x (truth b) = starts_with_printed w x
  prefix_printed w x (whole z) = starts_with_printed w x
  prefix_printed w x (text bs) = like_printed bs
  prefix_printed w x (string bs) = starts_with_printed w x
  prefix_printed w x (sequence cs) = starts_with_printed w x
  prefix_printed w x (tagged n c) = starts_with_printed w x
  prefix_printed w x (typed t c) = starts_with_printed w x

-- ---- formulas

-- the parts of a filter are printed as its tokens
pub printed : (names : List (List ℕ)) (ws : LiteralWords) (level : Level) (f : Formula) → IsPrinted (tokens_at names ws level f) (text_at names ws level f)
printed names ws level (constant truths.True) = record { text = refl; phrase = record { first = keyword_token keywords.True; rest = []; whole = refl; apart = λ t word. refl; closed = refl } }
printed names ws level (constant truths.False) = record { text = refl; phrase = record { first = keyword_token keywords.False; rest = []; whole = refl; apart = λ t word. refl; closed = refl } }
printed names ws level (constant truths.Unknown) = record { text = refl; phrase = record { first = keyword_token keywords.Null; rest = []; whole = refl; apart = λ t word. refl; closed = refl } }
printed names ws level (comparison k op x) = comparison_printed names k ws op x
printed names ws level (null_test k) = null_test_printed names k false
printed names ws level (membership k xs) = membership_printed names k false ws xs
printed names ws level (range k x y) = range_printed names k false ws x y
printed names ws level (prefix_test k x) = prefix_printed names k (first_word ws) x x.content
printed names ws level (pattern_test k case parts) = pattern_test_printed names k case parts
printed names ws level (both p q) = grouped_printed (groups_and level) _ _ (joined_printed _ _ keywords.And _ _ refl (printed names ws levels.Not p) (printed names (words_behind p ws) levels.And q))
printed names ws level (either p q) = grouped_printed (groups_or level) _ _ (joined_printed _ _ keywords.Or _ _ refl (printed names ws levels.And p) (printed names (words_behind p ws) levels.Or q))
printed names ws level (negation (constant t)) = denied_printed _ _ (printed names ws levels.Not (constant t))
printed names ws level (negation (comparison k op x)) = denied_printed _ _ (printed names ws levels.Not (comparison k op x))
printed names ws level (negation (null_test k)) = null_test_printed names k true
printed names ws level (negation (membership k xs)) = membership_printed names k true ws xs
printed names ws level (negation (range k x y)) = range_printed names k true ws x y
printed names ws level (negation (prefix_test k x)) = denied_printed _ _ (printed names ws levels.Not (prefix_test k x))
printed names ws level (negation (pattern_test k case parts)) = denied_printed _ _ (printed names ws levels.Not (pattern_test k case parts))
printed names ws level (negation (both p q)) = denied_printed _ _ (printed names ws levels.Not (both p q))
printed names ws level (negation (either p q)) = denied_printed _ _ (printed names ws levels.Not (either p q))
printed names ws level (negation (negation p)) = denied_printed _ _ (printed names ws levels.Not (negation p))
