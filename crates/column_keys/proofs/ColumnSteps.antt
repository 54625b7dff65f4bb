-- Steps of reading the columns of a table.
use Rattle.std.proofs.Common.{◌≡◌, ℕ, ◌+◌, ◌<◌, List, [], ◌∷◌, ◌++◌, length, take, get_or, map, refl, sym, subst, ap, ap₂, ◌∙◌}
use Rattle.std.specs.Prelude.{Result, Ok, Err, IsErr, IsErrAnd, IfErr}
use Rattle.std.specs.List.{All}
use Rattle.std.proofs.lemmas.List.{map-append, take_more}
use Rattle.std.proofs.lemmas.List.Elements.{All-nil, All-push}
use Rattle.arrow_columns.specs.declared.columns.Column.{Column}
use Rattle.column_cells.specs.Contents.{HasTexts, contents_of_column, contents_of_rows}
use Rattle.column_cells.proofs.TableSteps.{first-error}
use Rattle.column_keys.specs.Tables.{AreReadFrom, AreSoundBefore, IsErrorAt, IsReadFrom, IsSoundAt, IsTableError, options_in, options_of, table_of}
use Rattle.arrow_columns.specs.Columns.{rows_in}
use Rattle.column_keys.specs.declared.key_columns.KeyColumn.{KeyColumn}
use Rattle.column_keys.specs.declared.errors.TableError.{TableError}
use Rattle.column_keys.specs.declared.errors.TableError.TheVariants.{BadOptions, OutOfMemory, Unreadable, WrongCount, WrongLength}

pub read-none : (columns : List Column) (options : List ℕ) → AreReadFrom columns options 0 []
read-none columns options = record { contents = refl; options' = refl; rows = All-nil _ }

-- one column more

pub read-more : (columns : List Column) (options : List ℕ) (k : ℕ) (d : Column) (table more : List KeyColumn) (read : KeyColumn) → k < length columns → k < length options
    → AreReadFrom columns options k table → IsReadFrom (get_or columns k d) (get_or options k 0) (rows_in columns) read → more ≡ table ++ read ∷ [] → AreReadFrom columns options (k + 1) more
read-more columns options k d table more read here there all one e = record {
  contents =
      ap table_of e ∙ map-append (λ c. contents_of_rows c.rows) table (read ∷ []) ∙ ap₂ (λ xs x. xs ++ x ∷ []) all.contents one.contents ∙ sym (map-append contents_of_column (take k columns) (get_or columns k d ∷ []))
      ∙ ap (map contents_of_column) (sym (take_more columns k d here));
  options' =
      ap options_of e ∙ map-append (λ c. c.options) table (read ∷ []) ∙ ap₂ (λ xs x. xs ++ x ∷ []) all.options' one.options' ∙ sym (map-append options_in (take k options) (get_or options k 0 ∷ []))
      ∙ ap (map options_in) (sym (take_more options k 0 there));
  rows = subst (λ t. All (λ c. (length (contents_of_rows c.rows) ≡ rows_in columns) × HasTexts c.rows) t) (sym e) (All-push (λ c. (length (contents_of_rows c.rows) ≡ rows_in columns) × HasTexts c.rows) table read all.rows (ap length one.contents ∙ one.sound.even, one.texts));
}

-- an error of a column is one of the table

pub table-fault : (columns : List Column) (options : List ℕ) (k : ℕ) (d : Column) (fault : TableError) → length options ≡ length columns → k < length columns → AreSoundBefore columns options k
    → IsErrorAt k (get_or columns k d) (get_or options k 0) (rows_in columns) fault → IsTableError columns options fault
table-fault columns options k d OutOfMemory counts here all h = absurd h
table-fault columns options k d WrongCount counts here all h = absurd h
table-fault columns options k d (Unreadable place fault) counts here all h = (counts, first-error (IsSoundAt options (rows_in columns)) (λ j column. IsErrorAt j column (get_or options j 0) (rows_in columns) (Unreadable place fault)) columns k d here all h)
table-fault columns options k d (BadOptions place) counts here all h = (counts, first-error (IsSoundAt options (rows_in columns)) (λ j column. IsErrorAt j column (get_or options j 0) (rows_in columns) (BadOptions place)) columns k d here all h)
table-fault columns options k d (WrongLength place) counts here all h = (counts, first-error (IsSoundAt options (rows_in columns)) (λ j column. IsErrorAt j column (get_or options j 0) (rows_in columns) (WrongLength place)) columns k d here all h)

pub table-refused : {X : Type 0} (columns : List Column) (options : List ℕ) (r : Result X TableError) (e : TableError) → IsErr r × IsErrAnd r (λ f. f ≡ e) → IsTableError columns options e → IfErr r (λ f. IsTableError columns options f)
table-refused columns options (Ok p) e h k = tt
table-refused columns options (Err f) e h k = subst (IsTableError columns options) (sym h.1) k

pub ruleset shown = (read-none)
