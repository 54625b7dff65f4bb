-- Steps of preparing a filter.
use Rattle.std.proofs.Common.{◌≡◌, ℕ, ◌+◌, ◌^◌, ◌<◌, ◌≤◌, ◌⊎◌, inl, inr, List, [], ◌∷◌, ◌++◌, length, take, get_or, map, sym, subst, ap, ap₂, ◌∙◌, arith, Some, slice_get}
use Rattle.std.specs.Global.{Global}
use Rattle.std.specs.Prelude.{Err, IfErr, IfOk, IsErr, IsErrAnd, Ok, Result, Vec}
use Rattle.std.specs.Str.{IsUtf8}
use Rattle.std.proofs.lemmas.Bool.{cases_lt}
use Rattle.std.proofs.lemmas.List.{map-append, take_all, take_more}
use Rattle.std.proofs.lemmas.Option.{slice_get-get_or, same_Some}
use Rattle.column_cells.specs.Types.{type_at}
use Rattle.filter_encoding.specs.Encoding.{CanBeWritten, HasEncoding, Prepared, parts_of}
use Rattle.vortex_dtype.specs.TypeOf.{type_of}
use Rattle.vortex_dtype.specs.TypeTree.{TypeTree}
use Rattle.vortex_dtype.specs.declared.types.DType.{DType}
use Rattle.filter_sql.specs.ColumnNames.{ColumnTree, column_tree, column_trees}
use Rattle.filter_sql.specs.Faults.{IsPlaced}
use Rattle.vortex_filter.specs.Formula.{Formula, formula}
use Rattle.filter_sql.specs.Parsing.{IsSqlWithin, RefusesSqlWithin}
use Rattle.filter_sql.specs.declared.column.Column.{Column}
use Rattle.vortex_filter.specs.declared.filter.Filter.{Filter}
use Rattle.filter_sql.specs.declared.error.ParseError.{ParseError}
use Rattle.filter_sql.specs.declared.error.ParseError.TheVariants as errors
use Rattle.vortex_filter.proofs.LiteralTypes.{TypesSay, WordsSay}
use Rattle.vortex_c.proofs.NestSteps.{words-nest}
use Rattle.vortex_c.specs.FilterSql.{AreNamed, AreNamedBefore, IsColumnError, IsColumnsError, IsNamed, IsPreparedFrom, IsSqlError, IsTextError, IsUnfit, WritesEncoding, encoding_depth, fault_of_words, kind_of_named, prepared_of, tree_of_kind, trees_of_kinds, types_of_kinds}
use Rattle.vortex_c.specs.declared.sql.NamedKind.{NamedKind}
use Rattle.vortex_c.specs.declared.sql.SqlError.{SqlError}
use Rattle.vortex_c.specs.declared.sql.SqlError.TheVariants.{NameNotUtf8, NoFilter, NoEncoding, NotAKind, NotUtf8, OutOfMemory}

-- ---- columns, one by one

pub named-before-none : (columns : List NamedKind) → AreNamedBefore columns 0
named-before-none columns j column less got = absurd (omega arith)

got-is : (columns : List NamedKind) (k : ℕ) (d other : NamedKind) → k < length columns → slice_get columns k ≡ Some other → get_or columns k d ≡ other
got-is columns k d other here got = same_Some (get_or columns k d) other (sym (slice_get-get_or columns k d here) ∙ got)

pub named-before-more : (columns : List NamedKind) (k : ℕ) (d : NamedKind) → k < length columns → AreNamedBefore columns k → IsNamed (get_or columns k d) → AreNamedBefore columns (k + 1)
named-before-more columns k d here all one j other less got = by_place (cases_lt j k)
  where
    by_place : (j < k) ⊎ (k ≤ j) → IsNamed other
    by_place (inl before) = all j other before got
    by_place (inr after) =
        let at : j ≡ k = omega arith in
        subst IsNamed (got-is columns k d other here (subst (λ n. slice_get columns n ≡ Some other) at got)) one

pub named-all : (columns : List NamedKind) (k : ℕ) → length columns ≤ k → AreNamedBefore columns k → AreNamed columns
named-all columns k h all j column less got = all j column (omega arith) got

pub trees-more : (columns : List NamedKind) (k : ℕ) (d : NamedKind) (named more : List Column) (x : Column) → k < length columns → column_trees named ≡ trees_of_kinds (take k columns) → column_tree x ≡ tree_of_kind (get_or columns k d) → more ≡ named ++ x ∷ []
    → column_trees more ≡ trees_of_kinds (take (k + 1) columns)
trees-more columns k d named more x here all one e =
    ap column_trees e ∙ map-append column_tree named (x ∷ []) ∙ ap₂ (λ xs y. xs ++ y ∷ []) all one ∙ sym (map-append tree_of_kind (take k columns) (get_or columns k d ∷ [])) ∙ ap trees_of_kinds (sym (take_more columns k d here))

pub trees-all : (columns : List NamedKind) (k : ℕ) (named : List Column) → length columns ≤ k → column_trees named ≡ trees_of_kinds (take k columns) → column_trees named ≡ trees_of_kinds columns
trees-all columns k named h all = all ∙ ap trees_of_kinds (take_all k columns h)

columns-fault : (columns : List NamedKind) (k : ℕ) (d : NamedKind) (e : SqlError) → k < length columns → AreNamedBefore columns k → IsColumnError k (get_or columns k d) e → IsColumnsError columns e
columns-fault columns k d e here all h = (k, get_or columns k d, slice_get-get_or columns k d here, all, h)

pub columns-refused : (columns : List NamedKind) (k : ℕ) (d : NamedKind) (r : Result Unit SqlError) (e : SqlError) → IsErr r × IsErrAnd r (λ f. f ≡ e) → k < length columns → AreNamedBefore columns k → IsColumnError k (get_or columns k d) e → IfErr r (IsColumnsError columns)
columns-refused columns k d (Ok x) e h here all one = tt
columns-refused columns k d (Err f) e h here all one = subst (IsColumnsError columns) (sym h.1) (columns-fault columns k d e here all one)

-- a column with a kind and a name has no fault
pub no-fault : (k : ℕ) (column : NamedKind) (e : SqlError) → IsNamed column → IsColumnError k column e → ⊥
no-fault k column OutOfMemory named h = h
no-fault k column (NotAKind place) named h = named.kind h.1
no-fault k column (NameNotUtf8 place) named h = h.2 named.name
no-fault k column NotUtf8 named h = h
no-fault k column (NoFilter cause) named h = h
no-fault k column NoEncoding named h = h

pub named-at : (columns : List NamedKind) (k : ℕ) (d : NamedKind) → k < length columns → AreNamed columns → IsNamed (get_or columns k d)
named-at columns k d here all = all k (get_or columns k d) here (slice_get-get_or columns k d here)

-- ---- types, one by one

abbrev type_of_kind_at : NamedKind → TypeTree
type_of_kind_at column = type_at (kind_of_named column)

pub types-more : (columns : List NamedKind) (k : ℕ) (d : NamedKind) (types more : List DType) (x : DType) → k < length columns → map type_of types ≡ types_of_kinds (take k columns) → type_of x ≡ type_at (kind_of_named (get_or columns k d)) → more ≡ types ++ x ∷ []
    → map type_of more ≡ types_of_kinds (take (k + 1) columns)
types-more columns k d types more x here all one e =
    ap (map type_of) e ∙ map-append type_of types (x ∷ []) ∙ ap₂ (λ xs y. xs ++ y ∷ []) all one ∙ sym (map-append type_of_kind_at (take k columns) (get_or columns k d ∷ [])) ∙ ap types_of_kinds (sym (take_more columns k d here))

pub types-all : (columns : List NamedKind) (k : ℕ) (types : List DType) → length columns ≤ k → map type_of types ≡ types_of_kinds (take k columns) → map type_of types ≡ types_of_kinds columns
types-all columns k types h all = all ∙ ap types_of_kinds (take_all k columns h)

-- ---- words

pub words-fault : (n : ℕ) (trees : List ColumnTree) (text : List ℕ) (e : ParseError) → RefusesSqlWithin n trees text e → IsPlaced (length text) e → IsTextError n trees text (fault_of_words e)
words-fault n trees text errors.OutOfMemory r p = tt
words-fault n trees text (errors.Expected offset expected) r p = (r, p)
words-fault n trees text (errors.NoColumn offset) r p = (r, p)
words-fault n trees text (errors.TypesDiffer offset) r p = (r, p)
words-fault n trees text (errors.NoLiteral offset) r p = (r, p)
words-fault n trees text (errors.NumberTooLong offset) r p = (r, p)
words-fault n trees text (errors.BadText offset) r p = (r, p)
words-fault n trees text (errors.TooDeep offset) r p = (r, p)

pub text-along : (n : ℕ) (trees others : List ColumnTree) (text : List ℕ) (r : Result Filter SqlError) → others ≡ trees → IfErr r (IsTextError n others text) → IfErr r (IsTextError n trees text)
text-along n trees others text r is h = subst (λ ts. IfErr r (IsTextError n ts text)) is h

pub words-read : (n : ℕ) (text : List ℕ) (columns : List NamedKind) (trees : List ColumnTree) (r : Result Filter SqlError) → trees ≡ trees_of_kinds columns → IfOk r (λ filter. IsSqlWithin n trees text (formula filter)) → IfOk r (λ filter. IsSqlWithin n (trees_of_kinds columns) text (formula filter))
words-read n text columns trees r is h = subst (λ ts. IfOk r (λ filter. IsSqlWithin n ts text (formula filter))) is h

pub memory-text : (n : ℕ) (trees : List ColumnTree) (text : List ℕ) (r : Result Filter SqlError) (e : SqlError) → IsErr r × IsErrAnd r (λ f. f ≡ e) → e ≡ OutOfMemory → IfErr r (IsTextError n trees text)
memory-text n trees text (Ok x) e h is = tt
memory-text n trees text (Err f) e h is = subst (IsTextError n trees text) (sym (h.1 ∙ is)) tt

-- why columns or words are not as they are to be
of-columns : (words : List ℕ) (columns : List NamedKind) (e : SqlError) → IsColumnsError columns e → IsUnfit words columns e
of-columns words columns OutOfMemory h = absurd h.4
of-columns words columns (NotAKind place) h = h
of-columns words columns (NameNotUtf8 place) h = h
of-columns words columns NotUtf8 h = absurd h.4
of-columns words columns (NoFilter cause) h = absurd h.4
of-columns words columns NoEncoding h = absurd h.4

pub unfit-columns : {A : Type 0} (words : List ℕ) (columns : List NamedKind) (r : Result A SqlError) (e : SqlError) → IsErr r × IsErrAnd r (λ f. f ≡ e) → IsColumnsError columns e → IfErr r (IsUnfit words columns)
unfit-columns words columns (Ok x) e h k = tt
unfit-columns words columns (Err f) e h k = subst (IsUnfit words columns) (sym h.1) (of-columns words columns e k)

of-unfit : (n : ℕ) (words : List ℕ) (columns : List NamedKind) (e : SqlError) → IsUnfit words columns e → IsSqlError n words columns e
of-unfit n words columns OutOfMemory h = absurd h
of-unfit n words columns (NotAKind place) h = h
of-unfit n words columns (NameNotUtf8 place) h = h
of-unfit n words columns NotUtf8 h = h
of-unfit n words columns (NoFilter cause) h = absurd h
of-unfit n words columns NoEncoding h = absurd h

of-text : (n : ℕ) (words : List ℕ) (columns : List NamedKind) (e : SqlError) → AreNamed columns → IsUtf8 words → IsTextError n (trees_of_kinds columns) words e → IsSqlError n words columns e
of-text n words columns OutOfMemory all u h = (all, u)
of-text n words columns (NotAKind place) all u h = absurd h
of-text n words columns (NameNotUtf8 place) all u h = absurd h
of-text n words columns NotUtf8 all u h = absurd h
of-text n words columns (NoFilter cause) all u h = (all, u, h)
of-text n words columns NoEncoding all u h = absurd h

pub unfit-refused : (n : ℕ) (words : List ℕ) (columns : List NamedKind) (r : Result (Vec ℕ Global) SqlError) (e : SqlError) → IsErr r × IsErrAnd r (λ f. f ≡ e) → IsUnfit words columns e → IfErr r (IsSqlError n words columns)
unfit-refused n words columns (Ok x) e h k = tt
unfit-refused n words columns (Err f) e h k = subst (IsSqlError n words columns) (sym h.1) (of-unfit n words columns e k)

pub text-refused : (n : ℕ) (words text : List ℕ) (columns : List NamedKind) (r : Result (Vec ℕ Global) SqlError) (e : SqlError) → IsErr r × IsErrAnd r (λ f. f ≡ e) → AreNamed columns → (text ≡ words) × IsUtf8 words → IsTextError n (trees_of_kinds columns) text e
    → IfErr r (IsSqlError n words columns)
text-refused n words text columns (Ok x) e h all u k = tt
text-refused n words text columns (Err f) e h all u k = subst (IsSqlError n words columns) (sym h.1) (of-text n words columns e all u.1 (subst (λ ws. IsTextError n (trees_of_kinds columns) ws e) u.0 k))

-- ---- encodings

pub encoding-along : (n : ℕ) (types : List DType) (columns : List NamedKind) (filter : Filter) (r : Result (Vec ℕ Global) SqlError) → map type_of types ≡ types_of_kinds columns → WritesEncoding n (parts_of types filter) r → WritesEncoding n (prepared_of columns (formula filter)) r
encoding-along n types columns filter r is h =
    let prepared_with : List TypeTree → Prepared = λ ts. record { types = ts; filter = formula filter } in
    subst (λ p. WritesEncoding n p r) (ap prepared_with is) h

pub encoding-refused : (n : ℕ) (p : Prepared) (r : Result (Vec ℕ Global) SqlError) (e : SqlError) → IsErr r × IsErrAnd r (λ f. f ≡ e) → e ≡ OutOfMemory → WritesEncoding n p r
encoding-refused n p (Ok x) e h is = absurd h.1
encoding-refused n p (Err f) e h is = inl (h.1 ∙ is)

module _ (n m : ℕ) (words text : List ℕ) (columns : List NamedKind) (f : Formula) (depth : m ≡ encoding_depth n) (all : AreNamed columns) (u : (text ≡ words) × IsUtf8 words) (read : IsSqlWithin n (trees_of_kinds columns) text f) where
  means : IsSqlWithin n (trees_of_kinds columns) words f
  means = subst (λ ws. IsSqlWithin n (trees_of_kinds columns) ws f) u.0 read

  pub prepared-from : (r : Result (Vec ℕ Global) SqlError) → WritesEncoding m (prepared_of columns f) r → IfOk r (λ bytes. IsPreparedFrom n words columns bytes.items)
  prepared-from (Ok bytes) h = record { named = all; filter = f; means = means; written = subst (λ k. HasEncoding k (prepared_of columns f)) depth h.0; is = h.1 }
  prepared-from (Err e) h = tt

  pub encoding-fault : TypesSay → WordsSay → length words < 2 ^ 64 → length columns < 2 ^ 64 → (r : Result (Vec ℕ Global) SqlError) → WritesEncoding m (prepared_of columns f) r → IfErr r (IsSqlError n words columns)
  encoding-fault types said short few (Ok bytes) h = tt
  encoding-fault types said short few (Err e) (inl none) = subst (IsSqlError n words columns) (sym none) (all, u.1)
  encoding-fault types said short few (Err e) (inr deep) = absurd (deep.1 (subst (λ k. CanBeWritten k (prepared_of columns f)) (sym depth) (words-nest types said n words columns f short few u.1 means)))

pub ruleset shown = (named-before-none, named-all, named-at, trees-all, types-all, words-fault, encoding-along)
