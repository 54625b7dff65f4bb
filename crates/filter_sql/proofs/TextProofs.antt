-- A text has one list of tokens, and these have one formula.
use Rattle.std.proofs.Common.{◌≡◌, ℕ, zero, suc, ◌+◌, ◌≤◌, List, [], ◌∷◌, Option, Some, None, refl, sym, subst, ◌∙◌, length, arith}
use Rattle.filter_sql.specs.declared.error.ParseError.{ParseError}
use Rattle.filter_sql.specs.declared.error.ParseError.TheVariants as errors
use Rattle.filter_sql.specs.declared.lex.LexError.{LexError as Unread}
use Rattle.filter_sql.specs.declared.print.Level.{Level}
use Rattle.filter_sql.specs.declared.print.Level.TheVariants as levels
use Rattle.vortex_filter.specs.Formula.{Formula}
use Rattle.filter_sql.specs.ColumnNames.{ColumnTree}
use Rattle.filter_sql.specs.Grammar.{IsFilter, predicate, group, not_filter, one_operand, and_filter, one_conjunction, or_filter}
use Rattle.filter_sql.specs.Parsing.{IsNoSqlWithin, IsSqlWithin, tokens_in}
use Rattle.filter_sql.specs.Reading.{filter_at}
use Rattle.filter_sql.specs.TextLaws.{RefusedTextsSayNone, TextsSayOneFilter}
use Rattle.filter_sql.specs.Texts.{AreItemsOf, EndsFor, Item, Leads, trimmed}
use Rattle.filter_sql.specs.Tokens.{TokenTree}
use Rattle.filter_sql.proofs.ReadLaws.{filter_read}
use Rattle.filter_sql.proofs.Runs.{Reads, front_again, no_fault, one_reading, trees_of}

-- ---- tokens

leads_read : (end : ℕ) (text : List ℕ) (items : List Item) → Leads end text items [] → Reads text (trees_of items)
leads_read end text [] same = same
leads_read end text (item ∷ items) (word, after, front, place, more) = (after, front_again text item.token word after front, leads_read end (trimmed after) items more)

-- a text has one list of tokens
one_list : (text : List ℕ) (items others : List Item) → AreItemsOf text items → AreItemsOf text others → tokens_in items ≡ tokens_in others
one_list text items others a b = one_reading (length text) (trimmed text) items (tokens_in others) a (leads_read (length text) (trimmed text) others b)

-- ---- filters

-- what may nest less deep may nest deeper
deeper : {columns : List ColumnTree} {l : Level} {n : ℕ} {ts : List TokenTree} {f : Formula} → IsFilter columns l n ts f → (m : ℕ) → n ≤ m → IsFilter columns l m ts f
deeper (predicate d) m h = predicate d
deeper (group d) zero h = absurd (omega arith)
deeper (group d) (suc m) h = group (deeper d m (omega arith))
deeper (not_filter d) zero h = absurd (omega arith)
deeper (not_filter d) (suc m) h = not_filter (deeper d m (omega arith))
deeper (one_operand d) m h = one_operand (deeper d m h)
deeper (and_filter d e) zero h = absurd (omega arith)
deeper (and_filter d e) (suc m) h = and_filter (deeper d (suc m) h) (deeper e m (omega arith))
deeper (one_conjunction d) m h = one_conjunction (deeper d m h)
deeper (or_filter d e) zero h = absurd (omega arith)
deeper (or_filter d e) (suc m) h = or_filter (deeper d (suc m) h) (deeper e m (omega arith))

same_some : (f g : Formula) (o : Option Formula) → o ≡ Some f → o ≡ Some g → f ≡ g
same_some f g o a b = let both : Some f ≡ Some g = sym a ∙ b in cc

pub one_filter : TextsSayOneFilter
one_filter m n columns sql f g a b =
    let first : IsFilter columns levels.Or (m + n) (tokens_in a.items) f = deeper a.means (m + n) (omega arith) in
    let other : IsFilter columns levels.Or (m + n) (tokens_in b.items) g = deeper b.means (m + n) (omega arith) in
    let second : IsFilter columns levels.Or (m + n) (tokens_in a.items) g = subst (λ ts. IsFilter columns levels.Or (m + n) ts g) (one_list sql b.items a.items b.are a.are) other in
    same_some f g (filter_at columns (m + n) (tokens_in a.items)) (filter_read columns (m + n) (tokens_in a.items) f first) (filter_read columns (m + n) (tokens_in a.items) g second)

-- ---- refusals

module _ (n : ℕ) (columns : List ColumnTree) (sql : List ℕ) (e : ParseError) (f : Formula) where
  not_read : IsNoSqlWithin n columns sql e → IsSqlWithin n columns sql f → ⊥
  not_read h k = by_end h.ending.place h.ending.fault h.ends refl
    where
      by_end : (place : ℕ) (o : Option Unread) → EndsFor sql h.items place o → h.ending.fault ≡ o → ⊥
      by_end place None ends whole = h.none whole f (subst (λ ts. IsFilter columns levels.Or n ts f) (one_list sql k.items h.items k.are ends.0) k.means)
      by_end place (Some unread) ends whole =
          no_fault (length sql) (trimmed sql) h.items ends.rest unread (tokens_in k.items) ends.read ends.some ends.why (leads_read (length sql) (trimmed sql) k.items k.are)

pub none_refused : RefusedTextsSayNone
none_refused n columns sql errors.OutOfMemory f other h k = other refl
none_refused n columns sql (errors.Expected place what) f other h k = not_read n columns sql (errors.Expected place what) f h k
none_refused n columns sql (errors.NoColumn place) f other h k = not_read n columns sql (errors.NoColumn place) f h k
none_refused n columns sql (errors.TypesDiffer place) f other h k = not_read n columns sql (errors.TypesDiffer place) f h k
none_refused n columns sql (errors.NoLiteral place) f other h k = not_read n columns sql (errors.NoLiteral place) f h k
none_refused n columns sql (errors.NumberTooLong place) f other h k = not_read n columns sql (errors.NumberTooLong place) f h k
none_refused n columns sql (errors.BadText place) f other h k = not_read n columns sql (errors.BadText place) f h k
none_refused n columns sql (errors.TooDeep place) f other h k = not_read n columns sql (errors.TooDeep place) f h k
