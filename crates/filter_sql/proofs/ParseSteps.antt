-- From tokens to texts, and back.
use Rattle.std.proofs.Common.{◌≡◌, ◌==◌, ◌≤◌, ℕ, zero, suc, true, false, cond, List, [], ◌∷◌, Option, Some, None, refl, sym, ap, subst, ◌∙◌, arith}
use Rattle.std.specs.Prelude.{slice_get, Result, Ok, Err, IfOk, IfErr, OnOk}
use Rattle.std.specs.List.{AllByRecursion}
use Rattle.filter_sql.specs.declared.error.ParseError.{ParseError}
use Rattle.filter_sql.specs.declared.error.ParseError.TheVariants as errors
use Rattle.filter_sql.specs.declared.error.Expected.TheVariants as expects
use Rattle.filter_sql.specs.declared.lex.Ending.{Ending}
use Rattle.filter_sql.specs.declared.lex.LexError.{LexError as Unread}
use Rattle.filter_sql.specs.declared.lex.LexError.TheVariants as unreads
use Rattle.filter_sql.specs.declared.parsing.errors.Cause.{Cause}
use Rattle.filter_sql.specs.declared.parsing.errors.Cause.TheVariants as causes
use Rattle.filter_sql.specs.declared.parsing.errors.TokenError.{TokenError}
use Rattle.filter_sql.specs.declared.parsing.errors.TokenError.TheVariants as faults
use Rattle.filter_sql.specs.declared.token.Placed.{Placed}
use Rattle.filter_sql.specs.ColumnNames.{ColumnTree}
use Rattle.vortex_filter.specs.Formula.{Formula, formula}
use Rattle.filter_sql.specs.Parsing.{AllOrdered, types_of, IsSqlWithin, IsNoSqlWithin, IsReadable, ReadsAs, RefusesSqlWithin, depth, tokens_in}
use Rattle.filter_sql.specs.LiteralWords.{AreWordsOf, LiteralWords}
use Rattle.filter_sql.specs.Printing.{tokens_of}
use Rattle.vortex_filter.specs.declared.filter.Filter.{Filter}
use Rattle.filter_sql.specs.Faults.{IsPlaced}
use Rattle.filter_sql.specs.Lexing.{fault_at}
use Rattle.filter_sql.specs.Mistakes.{Fails, IsFaultIn, behind_read, caused, error_at, error_of, expected, filter_mistake, if_whole, place_where}
use Rattle.filter_sql.specs.Reading.{Read, disjunction_of, ended_read, filter_at, predicate_at, reads}
use Rattle.filter_sql.specs.Texts.{Item, AreItemsOf, EndsAt, EndsFor, items}
use Rattle.filter_sql.specs.Tokens.{TokenTree, trees, token_tree}
use Rattle.vortex_filter.specs.Checking.{FitsColumns}
use Rattle.filter_sql.proofs.FitLaws.{filter_fits}
use Rattle.filter_sql.proofs.PrintLaws.{LiteralLaws, text_means}
use Rattle.filter_sql.proofs.ReadLaws.{filter_is, filter_read, no_filter}

-- the offset of each token lies in the text
pub place_there : (end : ℕ) (ps : List Placed) (i : ℕ) (p : Placed) → AllByRecursion (λ (p : Placed). p.place ≤ end) ps → slice_get ps i ≡ Some p → p.place ≤ end
place_there end [] i p all e = absurd cc
place_there end (q ∷ ps) zero p all e = let same : Some q ≡ Some p = e in let is : q ≡ p = cc in subst (λ (r : Placed). r.place ≤ end) is all.0
place_there end (q ∷ ps) (suc i) p all e = place_there end ps i p all.1 e

pub ruleset places = (place_there)

tokens_are : (ps : List Placed) → trees ps ≡ tokens_in (items ps)
tokens_are [] = refl
tokens_are (p ∷ ps) = ap (λ ts. token_tree p.token ∷ ts) (tokens_are ps)

-- ---- errors at places

pub fault_placed : (end : ℕ) (fault : Unread) (e : ParseError) → e ≡ fault_at fault end → IsPlaced end e
fault_placed end fault e is = subst (IsPlaced end) (sym is) (by_fault fault)
  where
    by_fault : (fault : Unread) → IsPlaced end (fault_at fault end)
    by_fault unreads.OutOfMemory = tt
    by_fault unreads.BadText = omega arith

-- behind the last token it is that no token begins, and before that a mistake of the tokens
pub fault_told : (is : List Item) (end left : ℕ) (cause : Cause) (fault : Unread) (e : ParseError) → (left == 0) ≡ true → e ≡ fault_at fault end → e ≡ error_at is end (Some fault) left cause
fault_told is end left cause fault e here h = h ∙ sym (ap (λ b. cond b (fault_at fault end) (caused (place_where is end left) cause)) here)

pub mistake_told : (is : List Item) (end left : ℕ) (cause : Cause) (fault : Unread) (e : ParseError) → (left == 0) ≡ false → e ≡ caused (place_where is end left) cause → e ≡ error_at is end (Some fault) left cause
mistake_told is end left cause fault e here h = h ∙ sym (ap (λ b. cond b (fault_at fault end) (caused (place_where is end left) cause)) here)

pub ruleset mistakes = (fault_placed, fault_told, mistake_told)

-- ---- tokens behind which the text goes on, or ends

-- the first mistake of tokens that are a filter is that they do not end
whole_mistake : (o : Read) (f : Formula) (d : TokenError) → ended_read o ≡ Some f → behind_read o (λ us. expected us expects.End) d ≡ faults.At 0 (causes.Expected expects.End)
whole_mistake None f d e = absurd cc
whole_mistake (Some (g, [])) f d e = refl
whole_mistake (Some (g, t ∷ ts)) f d e = absurd cc

filter_mistake_is : (columns : List ColumnTree) (n : ℕ) (ts : List TokenTree) (f : Formula) → filter_at columns n ts ≡ Some f → filter_mistake columns n ts ≡ faults.At 0 (causes.Expected expects.End)
unfolding filter_at filter_mistake
filter_mistake_is columns n ts f e = whole_mistake (disjunction_of (predicate_at columns) (reads (predicate_at columns) n) ts) f _ e

-- a filter behind which the text goes on is refused for what no token begins
pub whole_refused : (columns : List ColumnTree) (n : ℕ) (ps : List Placed) (ending : Ending) (filter : Filter) (r : Result Filter ParseError) → filter_at columns n (trees ps) ≡ Some (formula filter) → r ≡ if_whole ending.place ending.fault filter
    → IfErr r (IsFaultIn (items ps) ending (filter_at columns n (trees ps)) (filter_mistake columns n (trees ps)))
whole_refused columns n ps ending filter r read is = subst (λ r. IfErr r (IsFaultIn (items ps) ending (filter_at columns n (trees ps)) (filter_mistake columns n (trees ps)))) (sym is) (by_fault ending.fault refl)
  where
    refused : (e : ParseError) → (ending.fault ≡ None → filter_at columns n (trees ps) ≡ None) × (e ≡ error_of (items ps) ending (filter_mistake columns n (trees ps))) → IsFaultIn (items ps) ending (filter_at columns n (trees ps)) (filter_mistake columns n (trees ps)) e
    refused errors.OutOfMemory h = tt
    refused _ h = h

    by_fault : (o : Option Unread) → ending.fault ≡ o → IfErr (if_whole ending.place o filter) (IsFaultIn (items ps) ending (filter_at columns n (trees ps)) (filter_mistake columns n (trees ps)))
    by_fault None e = tt
    by_fault (Some unread) e =
        refused (fault_at unread ending.place) (
          λ none. let both : None ≡ Some unread = sym none ∙ e in absurd cc,
          ap (λ o. error_at (items ps) ending.place o 0 (causes.Expected expects.End)) (sym e) ∙ sym (ap (error_of (items ps) ending) (filter_mistake_is columns n (trees ps) (formula filter) read)),
        )

pub whole_given : (ending : Ending) (filter : Filter) (r : Result Filter ParseError) → r ≡ if_whole ending.place ending.fault filter → OnOk r (ending.fault ≡ None)
whole_given ending filter r is = subst (λ r. OnOk r (ending.fault ≡ None)) (sym is) (by_fault ending.fault refl)
  where
    by_fault : (o : Option Unread) → ending.fault ≡ o → OnOk (if_whole ending.place o filter) (ending.fault ≡ None)
    by_fault None e = e
    by_fault (Some unread) e = tt

-- what holds of the filter holds of what is given
pub whole_has : (P : Filter → Type 0) (end : ℕ) (o : Option Unread) (filter : Filter) (r : Result Filter ParseError) → r ≡ if_whole end o filter → P filter → IfOk r P
whole_has P end o filter r is h = subst (λ r. IfOk r P) (sym is) (by_fault o)
  where
    by_fault : (o : Option Unread) → IfOk (if_whole end o filter) P
    by_fault None = h
    by_fault (Some unread) = tt

pub whole_placed : (end : ℕ) (o : Option Unread) (filter : Filter) (r : Result Filter ParseError) → r ≡ if_whole end o filter → IfErr r (IsPlaced end)
whole_placed end o filter r is = subst (λ r. IfErr r (IsPlaced end)) (sym is) (by_fault o)
  where
    by_fault : (o : Option Unread) → IfErr (if_whole end o filter) (IsPlaced end)
    by_fault None = tt
    by_fault (Some unread) = fault_placed end unread (fault_at unread end) refl

-- a mistake among tokens that are no filter
pub mistake_refused : {Y : Type 0} (is : List Item) (ending : Ending) (read : Option Y) (mistake fault : TokenError) (e : ParseError) → Fails fault read mistake → e ≡ error_of is ending fault → IsFaultIn is ending read mistake e
mistake_refused is ending read mistake faults.NoMemory e h k = subst (IsFaultIn is ending read mistake) (sym k) tt
mistake_refused is ending read mistake (faults.At left cause) e h k = refused e (λ none. h.0, k ∙ sym (ap (error_of is ending) h.1))
  where
    refused : (e : ParseError) → (ending.fault ≡ None → read ≡ None) × (e ≡ error_of is ending mistake) → IsFaultIn is ending read mistake e
    refused errors.OutOfMemory h = tt
    refused _ h = h

pub placed_more : (near far : ℕ) (e : ParseError) → near ≤ far → IsPlaced near e → IsPlaced far e
placed_more near far errors.OutOfMemory h p = tt
placed_more near far (errors.Expected place what) h p = omega arith
placed_more near far (errors.NoColumn place) h p = omega arith
placed_more near far (errors.TypesDiffer place) h p = omega arith
placed_more near far (errors.NoLiteral place) h p = omega arith
placed_more near far (errors.NumberTooLong place) h p = omega arith
placed_more near far (errors.BadText place) h p = omega arith
placed_more near far (errors.TooDeep place) h p = omega arith

pub result_placed : (near far : ℕ) (r : Result Filter ParseError) → near ≤ far → IfErr r (IsPlaced near) → IfErr r (IsPlaced far)
result_placed near far (Ok filter) h p = tt
result_placed near far (Err e) h p = placed_more near far e h p

-- of a text that ends with its tokens
are_all : (text : List ℕ) (is : List Item) (place : ℕ) (fault : Option Unread) → EndsFor text is place fault → fault ≡ None → AreItemsOf text is
are_all text is place None h e = h.0
are_all text is place (Some unread) h e = absurd cc

module _ (n : ℕ) (columns : List ColumnTree) (text : List ℕ) (ps : List Placed) (ending : Ending) (ends : EndsAt text (items ps) ending) where
  -- a filter that is read of the tokens is the text's
  pub is_sql : (f : Formula) → ending.fault ≡ None → filter_at columns n (trees ps) ≡ Some f → IsSqlWithin n columns text f
  is_sql f whole e = record { items = items ps; are = are_all text (items ps) ending.place ending.fault ends whole; means = filter_is columns n (tokens_in (items ps)) f (sym (ap (filter_at columns n) (tokens_are ps)) ∙ e) }

  abbrev Told : ParseError → Type 0
  Told e = (ending.fault ≡ None → filter_at columns n (trees ps) ≡ None) × (e ≡ error_of (items ps) ending (filter_mistake columns n (trees ps)))

  is_no_sql : (e : ParseError) → Told e → IsNoSqlWithin n columns text e
  is_no_sql e h = record {
    items = items ps;
    ending = ending;
    ends = ends;
    none = λ whole. no_filter columns n (tokens_in (items ps)) (sym (ap (filter_at columns n) (tokens_are ps)) ∙ h.0 whole);
    told = h.1 ∙ ap (λ (ts : List TokenTree). error_of (items ps) ending (filter_mistake columns n ts)) (tokens_are ps);
  }

  pub refuses : (e : ParseError) → IsFaultIn (items ps) ending (filter_at columns n (trees ps)) (filter_mistake columns n (trees ps)) e → RefusesSqlWithin n columns text e
  refuses errors.OutOfMemory h = tt
  refuses (errors.Expected place what) h = is_no_sql _ h
  refuses (errors.NoColumn place) h = is_no_sql _ h
  refuses (errors.TypesDiffer place) h = is_no_sql _ h
  refuses (errors.NoLiteral place) h = is_no_sql _ h
  refuses (errors.NumberTooLong place) h = is_no_sql _ h
  refuses (errors.BadText place) h = is_no_sql _ h
  refuses (errors.TooDeep place) h = is_no_sql _ h

-- nothing is refused where a filter is read and the text ends, but for want of memory
pub only_memory : (is : List Item) (ending : Ending) (read : Option Formula) (mistake : TokenError) (f : Formula) (e : ParseError) → ending.fault ≡ None → read ≡ Some f → IsFaultIn is ending read mistake e → e ≡ errors.OutOfMemory
only_memory is ending read mistake f errors.OutOfMemory whole said h = refl
only_memory is ending read mistake f (errors.Expected place what) whole said h = let both : None ≡ Some f = sym (h.0 whole) ∙ said in absurd cc
only_memory is ending read mistake f (errors.NoColumn place) whole said h = let both : None ≡ Some f = sym (h.0 whole) ∙ said in absurd cc
only_memory is ending read mistake f (errors.TypesDiffer place) whole said h = let both : None ≡ Some f = sym (h.0 whole) ∙ said in absurd cc
only_memory is ending read mistake f (errors.NoLiteral place) whole said h = let both : None ≡ Some f = sym (h.0 whole) ∙ said in absurd cc
only_memory is ending read mistake f (errors.TooDeep place) whole said h = let both : None ≡ Some f = sym (h.0 whole) ∙ said in absurd cc
only_memory is ending read mistake f (errors.NumberTooLong place) whole said h = let both : None ≡ Some f = sym (h.0 whole) ∙ said in absurd cc
only_memory is ending read mistake f (errors.BadText place) whole said h = let both : None ≡ Some f = sym (h.0 whole) ∙ said in absurd cc

-- ---- results

module _ (n : ℕ) (columns : List ColumnTree) (ps : List Placed) (ending : Ending) (result : Result Filter ParseError) where
  -- a filter that was read of the tokens, or what was refused of them
  abbrev Given : Type 0
  Given = IfOk result (λ filter. filter_at columns n (trees ps) ≡ Some (formula filter))

  abbrev Refused : Type 0
  Refused = IfErr result (IsFaultIn (items ps) ending (filter_at columns n (trees ps)) (filter_mistake columns n (trees ps)))

pub result_is_sql : (n : ℕ) (columns : List ColumnTree) (text : List ℕ) (ps : List Placed) (ending : Ending) → EndsAt text (items ps) ending → (result : Result Filter ParseError) → OnOk result (ending.fault ≡ None) → Given n columns ps ending result → IfOk result (λ filter. IsSqlWithin n columns text (formula filter))
result_is_sql n columns text ps ending ends (Ok filter) whole given = is_sql n columns text ps ending ends (formula filter) whole given
result_is_sql n columns text ps ending ends (Err e) whole given = tt

pub result_refuses : (n : ℕ) (columns : List ColumnTree) (text : List ℕ) (ps : List Placed) (ending : Ending) → EndsAt text (items ps) ending → (result : Result Filter ParseError) → Refused n columns ps ending result → IfErr result (RefusesSqlWithin n columns text)
result_refuses n columns text ps ending ends (Ok filter) refused = tt
result_refuses n columns text ps ending ends (Err e) refused = refuses n columns text ps ending ends e refused

same_some : (f g : Formula) (o : Option Formula) → o ≡ Some f → o ≡ Some g → f ≡ g
same_some f g o a b = let both : Some f ≡ Some g = sym a ∙ b in cc

read_back : (n : ℕ) (columns : List ColumnTree) (ps : List Placed) (ending : Ending) (f : Formula) → ending.fault ≡ None → filter_at columns n (trees ps) ≡ Some f → (result : Result Filter ParseError) → Given n columns ps ending result → Refused n columns ps ending result → ReadsAs f result
read_back n columns ps ending f whole read (Ok filter) given refused = same_some (formula filter) f (filter_at columns n (trees ps)) given read
read_back n columns ps ending f whole read (Err e) given refused = only_memory (items ps) ending (filter_at columns n (trees ps)) (filter_mistake columns n (trees ps)) f e whole read refused

-- what is printed is read again
pub result_reads_back : LiteralLaws → (n : ℕ) (columns : List ColumnTree) (names : List (List ℕ)) (ps : List Placed) (ending : Ending) (ws : LiteralWords) (f : Formula) → AreWordsOf ws f → IsReadable columns names f → depth f ≤ n → (trees ps ≡ tokens_of names ws f) × (ending.fault ≡ None) → (result : Result Filter ParseError) → Given n columns ps ending result → Refused n columns ps ending result → ReadsAs f result
result_reads_back laws n columns names ps ending ws f words readable deep are result given refused =
    read_back n columns ps ending f are.1 (ap (filter_at columns n) are.0 ∙ filter_read columns n (tokens_of names ws f) f (text_means laws columns names ws f n words readable deep)) result given refused

-- what is read fits the columns, where their types have no variants
pub result_fits : (n : ℕ) (columns : List ColumnTree) (ps : List Placed) (ending : Ending) → AllOrdered columns → (result : Result Filter ParseError) → Given n columns ps ending result → IfOk result (λ filter. FitsColumns (types_of columns) (formula filter))
result_fits n columns ps ending ordered (Ok filter) given = filter_fits columns ordered (filter_is columns n (trees ps) (formula filter) given)
result_fits n columns ps ending ordered (Err e) given = tt
