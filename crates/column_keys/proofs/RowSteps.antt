-- Steps of one row.
use Rattle.std.proofs.Common.{◌≡◌, ℕ, zero, suc, ◌+◌, ◌<◌, List, [], ◌++◌, length, length-append, drop, get_or, refl, sym, subst, ap, ◌∙◌, arith}
use Rattle.std.proofs.lemmas.List.{drop_more}
use Rattle.vortex_value.specs.Size.{capped}
use Rattle.vortex_row.specs.Keys.{key}
use Rattle.vortex_row.specs.Columns.{key_with}
use Rattle.vortex_row.proofs.EncodeSteps.{key_with-length}
use Rattle.vortex_value.specs.Values.Content.{Content, null}
use Rattle.column_cells.specs.Contents.{HasTexts, contents_of_rows}
use Rattle.column_keys.specs.Keys.{column_length, key_of_row, keys_length}
use Rattle.column_keys.specs.Tables.{HasRow, options_of, table_of}
use Rattle.column_keys.specs.declared.key_columns.KeyColumn.{KeyColumn}

-- the key of the columns from a place on
pub key-at : (i : ℕ) (columns : List KeyColumn) (row : ℕ) (column : KeyColumn) → i < length columns → column ≡ get_or columns i column
    → key_of_row (options_of (drop i columns)) (table_of (drop i columns)) row
    ≡ key_with column.options (get_or (contents_of_rows column.rows) row null) ++ key_of_row (options_of (drop (i + 1) columns)) (table_of (drop (i + 1) columns)) row
key-at i columns row column h is = rw (drop_more columns i column h, ← is) refl

pub row-here : (i : ℕ) (columns : List KeyColumn) (row : ℕ) (column : KeyColumn) → i < length columns → column ≡ get_or columns i column → HasRow columns row → (row < length (contents_of_rows column.rows)) × HasTexts column.rows
row-here i columns row column h is all = subst (λ c. (row < length (contents_of_rows c.rows)) × HasTexts c.rows) (sym is) (all i column h)

-- how long it is

pub length-at : (i : ℕ) (columns : List KeyColumn) (row : ℕ) (column : KeyColumn) → i < length columns → column ≡ get_or columns i column
    → length (key_of_row (options_of (drop i columns)) (table_of (drop i columns)) row)
    ≡ length (key (get_or (contents_of_rows column.rows) row null)) + length (key_of_row (options_of (drop (i + 1) columns)) (table_of (drop (i + 1) columns)) row)
length-at i columns row column h is =
    let content = get_or (contents_of_rows column.rows) row null in
    let rest = key_of_row (options_of (drop (i + 1) columns)) (table_of (drop (i + 1) columns)) row in
    ap length (key-at i columns row column h is) ∙ length-append (key_with column.options content) rest ∙ ap (λ n. n + length rest) (key_with-length column.options content)

-- how long the keys of a column are, and those of the columns from a place on

pub column-more : (cells : List Content) (row total piece now : ℕ) → total ≡ capped (column_length cells row) → piece ≡ capped (length (key (get_or cells row null))) → now ≡ capped (total + piece) → now ≡ capped (column_length cells (row + 1))
column-more cells row total piece now e f is = counted_on total piece now (column_length cells row) (length (key (get_or cells row null))) e f is ∙ ap (λ n. capped (column_length cells n)) next
  where
    next : suc row ≡ row + 1
    next = omega arith

    counted_on : (total more now n k : ℕ) → total ≡ capped n → more ≡ capped k → now ≡ capped (total + more) → now ≡ capped (n + k)
    counted_on total more now n k e f is = omega arith

pub lengths-at : (i : ℕ) (columns : List KeyColumn) (column : KeyColumn) → i < length columns → column ≡ get_or columns i column → (rows : ℕ)
    → keys_length (options_of (drop i columns)) (table_of (drop i columns)) rows
    ≡ column_length (contents_of_rows column.rows) rows + keys_length (options_of (drop (i + 1) columns)) (table_of (drop (i + 1) columns)) rows
lengths-at i columns column h is zero = refl
lengths-at i columns column h is (suc row) = omega (arith, lengths-at i columns column h is row, length-at i columns row column h is)

pub lengths-none : (rows : ℕ) → keys_length [] [] rows ≡ 0
lengths-none zero = refl
lengths-none (suc row) = omega (arith, lengths-none row)

-- a part is counted
pub row-counted : (total part rest all piece now : ℕ) → now ≡ capped (total + piece) → piece ≡ capped part → capped (total + (part + rest)) ≡ capped all → (capped now ≡ now) × (capped (now + rest) ≡ capped all)
row-counted total part rest all piece now e f h = (omega arith, omega arith)

pub ruleset shown = (key-at, row-here)
