-- What callers are told of the keys of rows.
use Rattle.std.specs.Prelude.{ℕ, List, map, take}
use Rattle.arrow_columns.specs.declared.columns.Column.{Column}
use Rattle.vortex_value.specs.Size.{capped}
use Rattle.column_keys.specs.Keys.{AreRowKeys, keys_length}
use Rattle.column_keys.specs.Tables.{contents_in, options_in}
use Rattle.arrow_columns.specs.Columns.{rows_in}
use Rattle.column_keys.specs.declared.errors.TableError.{TableError}
use Rattle.column_keys.specs.declared.errors.TableError.TheVariants.{BadOptions, OutOfMemory, Unreadable, WrongCount, WrongLength}
use Rattle.vortex_c.specs.ColumnErrors.{place_in_column, status_of_column}
use Rattle.vortex_c.specs.declared.fault.Fault.{Fault}
use Rattle.vortex_c.specs.declared.status.TheConstants.{BAD_OPTIONS, NO_MEMORY, WRONG_LENGTH}

-- the status of a table that has no keys
abbrev pub status_of_table : TableError → ℕ
status_of_table OutOfMemory = NO_MEMORY
status_of_table WrongCount = WRONG_LENGTH
status_of_table (Unreadable column fault) = status_of_column fault
status_of_table (BadOptions column) = BAD_OPTIONS
status_of_table (WrongLength column) = WRONG_LENGTH

-- its column, among so many: past the last one if there are not as many options; want of memory has no column
abbrev pub fault_of_table : ℕ → TableError → Fault → Fault
fault_of_table columns OutOfMemory before = before
fault_of_table columns WrongCount before = record { column = columns; place = 0 }
fault_of_table columns (Unreadable column fault) before = record { column = column; place = place_in_column fault }
fault_of_table columns (BadOptions column) before = record { column = column; place = 0 }
fault_of_table columns (WrongLength column) before = record { column = column; place = 0 }

-- how many bytes the keys of all rows have
abbrev pub all_keys_length : List ℕ → List Column → ℕ
all_keys_length options columns = capped (keys_length (map options_in options) (contents_in columns) (rows_in columns))

-- between these offsets the first bytes of the buffer are the keys of all rows
abbrev pub AreAllKeys : List ℕ → List Column → List ℕ → List ℕ → ℕ → Type 0
AreAllKeys options columns offsets buffer count = AreRowKeys (map options_in options) (contents_in columns) (rows_in columns) offsets (take count buffer)
