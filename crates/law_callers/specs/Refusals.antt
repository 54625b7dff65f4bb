-- Why words that are a filter may give no mask.
use Rattle.std.specs.Prelude.{◌≡◌, ℕ, List}
use Rattle.arrow_columns.specs.declared.columns.Column.{Column}
use Rattle.column_filters.specs.Tables.{IsMaskError}
use Rattle.filter_encoding.specs.declared.error.FilterEncodingError.TheVariants as encodings
use Rattle.filter_sql.specs.declared.error.ParseError.TheVariants as texts
use Rattle.vortex_dtype.specs.TypeTree.{TypeTree}
use Rattle.vortex_filter.specs.Formula.{Formula}
use Rattle.law_callers.specs.declared.words_to_rows.WordsError.{WordsError}
use Rattle.law_callers.specs.declared.words_to_rows.WordsError.TheVariants as words

-- why words that are this filter give no mask of columns: there is no memory for the filter or its bytes, or else for such a
-- reason of the columns
abbrev pub IsNoMask : Formula → List Column → List TypeTree → (count size : ℕ) → WordsError → Type 0
IsNoMask f columns types count size (words.NoFilter cause) = cause ≡ texts.OutOfMemory
IsNoMask f columns types count size (words.NoEncoding cause) = cause ≡ encodings.OutOfMemory
IsNoMask f columns types count size (words.NoMask cause) = IsMaskError f columns types count size cause
