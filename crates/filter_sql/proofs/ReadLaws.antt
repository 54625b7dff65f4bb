-- What is read is in the grammar, and what is in the grammar is read.
use Rattle.std.proofs.Common.{◌≡◌, ℕ, zero, suc, List, [], ◌∷◌, ◌++◌, Option, Some, None, refl, sym, ap, subst, ◌∙◌, append_assoc}
use Rattle.std.proofs.lemmas.List.{append-nil}
use Rattle.filter_sql.specs.declared.print.Level.{Level}
use Rattle.filter_sql.specs.declared.print.Level.TheVariants as levels
use Rattle.filter_sql.specs.declared.token.Keyword.TheVariants.{And, Or, Not}
use Rattle.filter_sql.specs.ColumnNames.{ColumnTree}
use Rattle.vortex_filter.specs.Formula.{Formula, both, either, negation}
use Rattle.filter_sql.specs.Tokens.{TokenTree, keyword_token, opening, closing}
use Rattle.filter_sql.specs.Grammar.{IsFilter, predicate, group, not_filter, one_operand, and_filter, one_conjunction, or_filter}
use Rattle.filter_sql.specs.Mistakes.{predicate_mistake}
use Rattle.filter_sql.specs.Reading.{Read, after_keyword, after_opening, after_closing, reads, read_at, disjunction_of, conjunction_of, operand_of, or_from, and_from, operand_from, group_of, continued, joined, negated, closed, closed_by, predicate_at, filter_at, ended, ended_read}
use Rattle.filter_sql.proofs.Words.{keyword_came, keyword_comes, opening_came, opening_comes, opening_is_no_word, closing_came, closing_comes, some_is, MayFollow, ends, closes, or_after_and, and_after_operand, no_or, no_and, follows_and, follows_operand}
use Rattle.filter_sql.proofs.PredicateLaws.{predicate_reads}
use Rattle.filter_sql.proofs.PredicateFronts.{predicate_front}
use Rattle.filter_sql.proofs.ReadSteps.{or_alone, or_joined, and_alone, and_joined, negated_is, group_is, predicate_is}

-- how a filter of a level is read
abbrev pub reads_at : List ColumnTree → Level → ℕ → List TokenTree → Read
reads_at columns l n ts = read_at (predicate_at columns) (reads (predicate_at columns) n) l ts

pub filter_reads : (columns : List ColumnTree) {l : Level} {n : ℕ} {ts : List TokenTree} {f : Formula} → IsFilter columns l n ts f → (rest : List TokenTree) → MayFollow l rest → reads_at columns l n (ts ++ rest) ≡ Some (f, rest)
unfolding read_at
filter_reads columns (predicate {n} {ts} {f} d) rest follows =
    let p = predicate_reads columns d rest follows in
    (predicate_is (predicate_at columns) (predicate_mistake columns) n (ts ++ rest) p.no_not p.no_opening).0 ∙ p.gives
filter_reads columns (group {n} {ts} {f} d) rest follows =
    let inner : disjunction_of (predicate_at columns) (reads (predicate_at columns) n) (ts ++ closing ∷ rest) ≡ Some (f, closing ∷ rest) = filter_reads columns d (closing ∷ rest) closes in
    rw append_assoc (group_is (predicate_at columns) (predicate_mistake columns) (suc n) (opening ∷ (ts ++ closing ∷ rest)) (ts ++ closing ∷ rest) n f (closing ∷ rest) rest (opening_is_no_word (ts ++ closing ∷ rest)) (opening_comes (ts ++ closing ∷ rest)) refl inner (closing_comes rest))
filter_reads columns (not_filter {n} {ts} {f} d) rest follows =
    negated_is (predicate_at columns) (predicate_mistake columns) (suc n) (keyword_token Not ∷ (ts ++ rest)) (ts ++ rest) n f (negation f) rest (sym (keyword_comes Not (ts ++ rest))) refl (filter_reads columns d rest follows) refl
filter_reads columns (one_operand {n} {ts} {f} d) rest follows =
    and_alone (predicate_at columns) (predicate_mistake columns) n (ts ++ rest) f rest (filter_reads columns d rest (follows_operand follows)) (no_and follows)
filter_reads columns (and_filter {n} {ts} {us} {f} {g} d e) rest follows =
    rw append_assoc (and_joined (predicate_at columns) (predicate_mistake columns) (suc n) (ts ++ keyword_token And ∷ (us ++ rest)) f (keyword_token And ∷ (us ++ rest)) (us ++ rest) n g (both f g) rest (filter_reads columns d (keyword_token And ∷ (us ++ rest)) and_after_operand) (sym (keyword_comes And (us ++ rest))) refl (filter_reads columns e rest follows) refl)
filter_reads columns (one_conjunction {n} {ts} {f} d) rest follows =
    or_alone (predicate_at columns) (predicate_mistake columns) n (ts ++ rest) f rest (filter_reads columns d rest (follows_and follows)) (no_or follows)
filter_reads columns (or_filter {n} {ts} {us} {f} {g} d e) rest follows =
    rw append_assoc (or_joined (predicate_at columns) (predicate_mistake columns) (suc n) (ts ++ keyword_token Or ∷ (us ++ rest)) f (keyword_token Or ∷ (us ++ rest)) (us ++ rest) n g (either f g) rest (filter_reads columns d (keyword_token Or ∷ (us ++ rest)) or_after_and) (sym (keyword_comes Or (us ++ rest))) refl (filter_reads columns e rest follows) refl)

-- ---- what is read is in the grammar

-- what was read is a front of the tokens
pub record Front (columns : List ColumnTree) (l : Level) (n : ℕ) (ts : List TokenTree) (f : Formula) (rest : List TokenTree) : Type 0 where
  pub front : List TokenTree
  pub whole : ts ≡ front ++ rest
  pub means : IsFilter columns l n front f

-- a read filter is one, with what follows it
read_parts : (f g : Formula) (ts us : List TokenTree) → ◌≡◌ {A = Read} (Some (f, ts)) (Some (g, us)) → (f ≡ g) × (ts ≡ us)
read_parts f g ts us e = let x : Formula × List TokenTree = (f, ts) in let y : Formula × List TokenTree = (g, us) in let same : x ≡ y = some_is x y e in (ap (λ (x : Formula × List TokenTree). x.0) same, ap (λ (x : Formula × List TokenTree). x.1) same)

-- what the reader of what nests in n operators gives is a front
abbrev pub ReadsInner : List ColumnTree → ℕ → Type 0
ReadsInner columns n = (l : Level) (ts : List TokenTree) (f : Formula) (rest : List TokenTree) → reads (predicate_at columns) (suc n) l ts ≡ Some (f, rest) → Front columns l n ts f rest

module _ (columns : List ColumnTree) where
  moved : (l : Level) (n : ℕ) (ts : List TokenTree) (f g : Formula) (rest us : List TokenTree) → (f ≡ g) × (rest ≡ us) → Front columns l n ts f rest → Front columns l n ts g us
  moved l n ts f g rest us same front = let e : rest ≡ us = same.1 in let d : f ≡ g = same.0 in subst (λ (x : Formula). Front columns l n ts x us) d (subst (λ (x : List TokenTree). Front columns l n ts f x) e front)

  -- `not`
  negation_front : (n : ℕ) → ReadsInner columns n → (ts us : List TokenTree) (f : Formula) (rest : List TokenTree) (inner : Read) → ts ≡ keyword_token Not ∷ us → reads (predicate_at columns) (suc n) levels.Not us ≡ inner → negated inner ≡ Some (f, rest) → Front columns levels.Not (suc n) ts f rest
  negation_front n ih ts us f rest None begins read e = absurd cc
  negation_front n ih ts us f rest (Some (g, vs)) begins read e =
      let front = ih levels.Not us g vs read in
      let made : Front columns levels.Not (suc n) ts (negation g) vs = record { front = keyword_token Not ∷ front.front; whole = begins ∙ ap (λ (x : List TokenTree). keyword_token Not ∷ x) front.whole; means = not_filter front.means } in
      moved levels.Not (suc n) ts (negation g) f vs rest (read_parts (negation g) f vs rest e) made

  closed_front : (n : ℕ) (ts us : List TokenTree) (g f : Formula) (vs rest : List TokenTree) (after : Option (List TokenTree)) → ts ≡ opening ∷ us → Front columns levels.Or n us g vs → after_closing vs ≡ after → closed_by g after ≡ Some (f, rest) → Front columns levels.Not (suc n) ts f rest
  closed_front n ts us g f vs rest None begins front end e = absurd cc
  closed_front n ts us g f vs rest (Some ws) begins front end e =
      let tail : vs ≡ closing ∷ ws = closing_came vs ws end in
      let whole : ts ≡ (opening ∷ (front.front ++ closing ∷ [])) ++ ws = begins ∙ ap (λ (x : List TokenTree). opening ∷ x) (front.whole ∙ ap (λ (x : List TokenTree). front.front ++ x) tail ∙ sym (append_assoc front.front (closing ∷ []) ws)) in
      let made : Front columns levels.Not (suc n) ts g ws = record { front = opening ∷ (front.front ++ closing ∷ []); whole = whole; means = group front.means } in
      moved levels.Not (suc n) ts g f ws rest (read_parts g f ws rest e) made

  group_front : (n : ℕ) → ReadsInner columns n → (ts us : List TokenTree) (f : Formula) (rest : List TokenTree) (inner : Read) → ts ≡ opening ∷ us → reads (predicate_at columns) (suc n) levels.Or us ≡ inner → closed inner ≡ Some (f, rest) → Front columns levels.Not (suc n) ts f rest
  group_front n ih ts us f rest None begins read e = absurd cc
  group_front n ih ts us f rest (Some (g, vs)) begins read e = closed_front n ts us g f vs rest (after_closing vs) begins (ih levels.Or us g vs read) refl e

  -- a part and a right operand
  and_front : (n : ℕ) → ReadsInner columns n → (ts : List TokenTree) (g f : Formula) (us rest vs : List TokenTree) (right : Read) → Front columns levels.Not (suc n) ts g us → us ≡ keyword_token And ∷ vs → reads (predicate_at columns) (suc n) levels.And vs ≡ right → joined both g right ≡ Some (f, rest) → Front columns levels.And (suc n) ts f rest
  and_front n ih ts g f us rest vs None left word read e = absurd cc
  and_front n ih ts g f us rest vs (Some (h, ws)) left word read e =
      let front = ih levels.And vs h ws read in
      let whole : ts ≡ (left.front ++ keyword_token And ∷ front.front) ++ ws = left.whole ∙ ap (λ (x : List TokenTree). left.front ++ x) (word ∙ ap (λ (x : List TokenTree). keyword_token And ∷ x) front.whole) ∙ sym (append_assoc left.front (keyword_token And ∷ front.front) ws) in
      let made : Front columns levels.And (suc n) ts (both g h) ws = record { front = left.front ++ keyword_token And ∷ front.front; whole = whole; means = and_filter left.means front.means } in
      moved levels.And (suc n) ts (both g h) f ws rest (read_parts (both g h) f ws rest e) made

  or_front : (n : ℕ) → ReadsInner columns n → (ts : List TokenTree) (g f : Formula) (us rest vs : List TokenTree) (right : Read) → Front columns levels.And (suc n) ts g us → us ≡ keyword_token Or ∷ vs → reads (predicate_at columns) (suc n) levels.Or vs ≡ right → joined either g right ≡ Some (f, rest) → Front columns levels.Or (suc n) ts f rest
  or_front n ih ts g f us rest vs None left word read e = absurd cc
  or_front n ih ts g f us rest vs (Some (h, ws)) left word read e =
      let front = ih levels.Or vs h ws read in
      let whole : ts ≡ (left.front ++ keyword_token Or ∷ front.front) ++ ws = left.whole ∙ ap (λ (x : List TokenTree). left.front ++ x) (word ∙ ap (λ (x : List TokenTree). keyword_token Or ∷ x) front.whole) ∙ sym (append_assoc left.front (keyword_token Or ∷ front.front) ws) in
      let made : Front columns levels.Or (suc n) ts (either g h) ws = record { front = left.front ++ keyword_token Or ∷ front.front; whole = whole; means = or_filter left.means front.means } in
      moved levels.Or (suc n) ts (either g h) f ws rest (read_parts (either g h) f ws rest e) made

  -- what is known of what nests in n operators: nothing is read for n = 0
  abbrev pub ReadsBelow : ℕ → Type 0
  ReadsBelow zero = Unit {0}
  ReadsBelow (suc n) = ReadsInner columns n

  group_or_predicate : (n : ℕ) → ReadsBelow n → (ts : List TokenTree) (f : Formula) (rest : List TokenTree) (after : Option (List TokenTree)) → after_opening ts ≡ after → group_of (predicate_at columns) (reads (predicate_at columns) n) ts after ≡ Some (f, rest) → Front columns levels.Not n ts f rest
  unfolding group_of reads
  group_or_predicate n ih ts f rest None opened e = let front = predicate_front columns ts f rest e in record { front = front.front; whole = front.whole; means = predicate front.means }
  group_or_predicate zero ih ts f rest (Some us) opened e = absurd cc
  group_or_predicate (suc n) ih ts f rest (Some us) opened e = group_front n ih ts us f rest (read_at (predicate_at columns) (reads (predicate_at columns) n) levels.Or us) (opening_came ts us opened) refl e

  operand_parts : (n : ℕ) → ReadsBelow n → (ts : List TokenTree) (f : Formula) (rest : List TokenTree) (after : Option (List TokenTree)) → after_keyword Not ts ≡ after → operand_from (predicate_at columns) (reads (predicate_at columns) n) ts after ≡ Some (f, rest) → Front columns levels.Not n ts f rest
  unfolding operand_from reads
  operand_parts n ih ts f rest None word e = group_or_predicate n ih ts f rest (after_opening ts) refl e
  operand_parts zero ih ts f rest (Some us) word e = absurd cc
  operand_parts (suc n) ih ts f rest (Some us) word e = negation_front n ih ts us f rest (read_at (predicate_at columns) (reads (predicate_at columns) n) levels.Not us) (keyword_came Not ts us word) refl e

  operand_front : (n : ℕ) → ReadsBelow n → (ts : List TokenTree) (f : Formula) (rest : List TokenTree) → operand_of (predicate_at columns) (reads (predicate_at columns) n) ts ≡ Some (f, rest) → Front columns levels.Not n ts f rest
  unfolding operand_of
  operand_front n ih ts f rest e = operand_parts n ih ts f rest (after_keyword Not ts) refl e

  and_more : (n : ℕ) → ReadsBelow n → (ts : List TokenTree) (g f : Formula) (us rest : List TokenTree) (after : Option (List TokenTree)) → Front columns levels.Not n ts g us → after_keyword And us ≡ after → continued both (reads (predicate_at columns) n levels.And) g us after ≡ Some (f, rest) → Front columns levels.And n ts f rest
  unfolding reads
  and_more n ih ts g f us rest None left word e = moved levels.And n ts g f us rest (read_parts g f us rest e) (record { front = left.front; whole = left.whole; means = one_operand left.means })
  and_more zero ih ts g f us rest (Some vs) left word e = absurd cc
  and_more (suc n) ih ts g f us rest (Some vs) left word e = and_front n ih ts g f us rest vs (read_at (predicate_at columns) (reads (predicate_at columns) n) levels.And vs) left (keyword_came And us vs word) refl e

  and_parts : (n : ℕ) → ReadsBelow n → (ts : List TokenTree) (f : Formula) (rest : List TokenTree) (left : Read) → operand_of (predicate_at columns) (reads (predicate_at columns) n) ts ≡ left → and_from (predicate_at columns) (reads (predicate_at columns) n) left ≡ Some (f, rest) → Front columns levels.And n ts f rest
  unfolding and_from
  and_parts n ih ts f rest None read e = absurd cc
  and_parts n ih ts f rest (Some (g, us)) read e = and_more n ih ts g f us rest (after_keyword And us) (operand_front n ih ts g us read) refl e

  conjunction_front : (n : ℕ) → ReadsBelow n → (ts : List TokenTree) (f : Formula) (rest : List TokenTree) → conjunction_of (predicate_at columns) (reads (predicate_at columns) n) ts ≡ Some (f, rest) → Front columns levels.And n ts f rest
  unfolding conjunction_of
  conjunction_front n ih ts f rest e = and_parts n ih ts f rest (operand_of (predicate_at columns) (reads (predicate_at columns) n) ts) refl e

  or_more : (n : ℕ) → ReadsBelow n → (ts : List TokenTree) (g f : Formula) (us rest : List TokenTree) (after : Option (List TokenTree)) → Front columns levels.And n ts g us → after_keyword Or us ≡ after → continued either (reads (predicate_at columns) n levels.Or) g us after ≡ Some (f, rest) → Front columns levels.Or n ts f rest
  unfolding reads
  or_more n ih ts g f us rest None left word e = moved levels.Or n ts g f us rest (read_parts g f us rest e) (record { front = left.front; whole = left.whole; means = one_conjunction left.means })
  or_more zero ih ts g f us rest (Some vs) left word e = absurd cc
  or_more (suc n) ih ts g f us rest (Some vs) left word e = or_front n ih ts g f us rest vs (read_at (predicate_at columns) (reads (predicate_at columns) n) levels.Or vs) left (keyword_came Or us vs word) refl e

  or_parts : (n : ℕ) → ReadsBelow n → (ts : List TokenTree) (f : Formula) (rest : List TokenTree) (left : Read) → conjunction_of (predicate_at columns) (reads (predicate_at columns) n) ts ≡ left → or_from (predicate_at columns) (reads (predicate_at columns) n) left ≡ Some (f, rest) → Front columns levels.Or n ts f rest
  unfolding or_from
  or_parts n ih ts f rest None read e = absurd cc
  or_parts n ih ts f rest (Some (g, us)) read e = or_more n ih ts g f us rest (after_keyword Or us) (conjunction_front n ih ts g us read) refl e

  disjunction_front : (n : ℕ) → ReadsBelow n → (ts : List TokenTree) (f : Formula) (rest : List TokenTree) → disjunction_of (predicate_at columns) (reads (predicate_at columns) n) ts ≡ Some (f, rest) → Front columns levels.Or n ts f rest
  unfolding disjunction_of
  disjunction_front n ih ts f rest e = or_parts n ih ts f rest (conjunction_of (predicate_at columns) (reads (predicate_at columns) n) ts) refl e

  level_front : (n : ℕ) → ReadsBelow n → (l : Level) (ts : List TokenTree) (f : Formula) (rest : List TokenTree) → read_at (predicate_at columns) (reads (predicate_at columns) n) l ts ≡ Some (f, rest) → Front columns l n ts f rest
  unfolding read_at
  level_front n ih levels.Or ts f rest e = disjunction_front n ih ts f rest e
  level_front n ih levels.And ts f rest e = conjunction_front n ih ts f rest e
  level_front n ih levels.Not ts f rest e = operand_front n ih ts f rest e

  reads_inner : (n : ℕ) → ReadsInner columns n
  unfolding reads
  reads_inner zero l ts f rest e = level_front zero tt l ts f rest e
  reads_inner (suc n) l ts f rest e = level_front (suc n) (reads_inner n) l ts f rest e

  pub read_front : (n : ℕ) (ts : List TokenTree) (f : Formula) (rest : List TokenTree) → disjunction_of (predicate_at columns) (reads (predicate_at columns) n) ts ≡ Some (f, rest) → Front columns levels.Or n ts f rest
  unfolding reads read_at
  read_front n ts f rest e = reads_inner n levels.Or ts f rest e

-- ---- whole filters

ended_by : (columns : List ColumnTree) (n : ℕ) (ts : List TokenTree) (g f : Formula) (rest : List TokenTree) → disjunction_of (predicate_at columns) (reads (predicate_at columns) n) ts ≡ Some (g, rest) → ended g rest ≡ Some f → IsFilter columns levels.Or n ts f
ended_by columns n ts g f [] read e =
    let front = read_front columns n ts g [] read in
    let whole : ts ≡ front.front = front.whole ∙ append-nil front.front in
    let same : g ≡ f = some_is g f e in
    subst (λ (h : Formula). IsFilter columns levels.Or n ts h) same (subst (λ (us : List TokenTree). IsFilter columns levels.Or n us g) (sym whole) front.means)
ended_by columns n ts g f (t ∷ rest) read e = absurd cc

filter_by : (columns : List ColumnTree) (n : ℕ) (ts : List TokenTree) (f : Formula) (o : Read) → disjunction_of (predicate_at columns) (reads (predicate_at columns) n) ts ≡ o → ended_read o ≡ Some f → IsFilter columns levels.Or n ts f
filter_by columns n ts f None read e = absurd cc
filter_by columns n ts f (Some (g, rest)) read e = ended_by columns n ts g f rest read e

-- what is read of tokens is a filter
pub filter_is : (columns : List ColumnTree) (n : ℕ) (ts : List TokenTree) (f : Formula) → filter_at columns n ts ≡ Some f → IsFilter columns levels.Or n ts f
unfolding filter_at
filter_is columns n ts f e = filter_by columns n ts f (disjunction_of (predicate_at columns) (reads (predicate_at columns) n) ts) refl e

-- a filter is read
pub filter_read : (columns : List ColumnTree) (n : ℕ) (ts : List TokenTree) (f : Formula) → IsFilter columns levels.Or n ts f → filter_at columns n ts ≡ Some f
unfolding filter_at read_at
filter_read columns n ts f d =
    let read : reads_at columns levels.Or n (ts ++ []) ≡ Some (f, []) = filter_reads columns d [] ends in
    let plain : disjunction_of (predicate_at columns) (reads (predicate_at columns) n) ts ≡ Some (f, []) = subst (λ (us : List TokenTree). reads_at columns levels.Or n us ≡ Some (f, [])) (append-nil ts) read in
    rw plain refl

-- where nothing is read, the tokens are no filter
pub no_filter : (columns : List ColumnTree) (n : ℕ) (ts : List TokenTree) → filter_at columns n ts ≡ None → (f : Formula) → IsFilter columns levels.Or n ts f → ⊥
no_filter columns n ts none f d = let read : filter_at columns n ts ≡ Some f = filter_read columns n ts f d in let both : None ≡ Some f = sym none ∙ read in absurd cc
