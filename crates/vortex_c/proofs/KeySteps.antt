-- Steps of the export for the keys of rows.
use Rattle.std.proofs.Common.{◌≡◌, ℕ, ◌-◌, ◌^◌, ◌<◌, List, length, take, map, sym, subst, ap, ◌∙◌, arith}
use Rattle.std.proofs.lemmas.List.{take_all}
use Rattle.arrow_columns.specs.declared.columns.Column.{Column}
use Rattle.vortex_value.specs.Size.{capped}
use Rattle.column_keys.specs.Keys.{AreRowKeys, keys_length}
use Rattle.column_keys.specs.Tables.{AreReadFrom, contents_in, options_in, options_of, table_of}
use Rattle.arrow_columns.specs.Columns.{rows_in}
use Rattle.column_keys.specs.declared.key_columns.KeyColumn.{KeyColumn}
use Rattle.vortex_c.specs.RowKeys.{AreAllKeys, all_keys_length}

all-options : (options : List ℕ) (columns : List Column) (table : List KeyColumn) → AreReadFrom columns options (length columns) table → length options ≡ length columns → options_of table ≡ map options_in options
all-options options columns table read counts = read.options' ∙ ap (map options_in) (take_all (length columns) options (omega arith))

all-contents : (options : List ℕ) (columns : List Column) (table : List KeyColumn) → AreReadFrom columns options (length columns) table → table_of table ≡ contents_in columns
all-contents options columns table read = read.contents ∙ ap contents_in (take_all (length columns) columns (omega arith))

-- the keys in the first bytes of the buffer
pub keys-given : (options : List ℕ) (columns : List Column) (table : List KeyColumn) (offsets buffer part : List ℕ) (count : ℕ) → AreReadFrom columns options (length columns) table → length options ≡ length columns
    → AreRowKeys (options_of table) (table_of table) (rows_in columns) offsets part → take count buffer ≡ part → AreAllKeys options columns offsets buffer count
keys-given options columns table offsets buffer part count read counts keys same =
    subst (λ bs. AreRowKeys (map options_in options) (contents_in columns) (rows_in columns) offsets bs) (sym same)
    (subst (λ o. AreRowKeys o (contents_in columns) (rows_in columns) offsets part) (all-options options columns table read counts)
    (subst (λ t. AreRowKeys (options_of table) t (rows_in columns) offsets part) (all-contents options columns table read) keys))

-- how many bytes they have
pub length-given : (options : List ℕ) (columns : List Column) (table : List KeyColumn) (count : ℕ) → AreReadFrom columns options (length columns) table → length options ≡ length columns
    → count ≡ capped (keys_length (options_of table) (table_of table) (rows_in columns)) → count ≡ all_keys_length options columns
length-given options columns table count read counts is =
    is ∙ ap (λ o. capped (keys_length o (table_of table) (rows_in columns))) (all-options options columns table read counts)
    ∙ ap (λ t. capped (keys_length (map options_in options) t (rows_in columns))) (all-contents options columns table read)

pub whole-length : (count total : ℕ) → count ≡ capped total → count < 2 ^ 64 - 1 → count ≡ total
whole-length count total is less = omega arith

pub ruleset shown = (length-given, whole-length)
