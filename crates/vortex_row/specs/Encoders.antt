-- What contracts say of encoders of rows: the types of the columns, and how each is sorted.
use Rattle.std.specs.Prelude.{List, map}
use Rattle.vortex_dtype.specs.TypeOf.{type_of}
use Rattle.vortex_dtype.specs.TypeTree.{TypeTree}
use Rattle.vortex_row.specs.declared.options.SortOptions.{SortOptions}
use Rattle.vortex_row.specs.declared.rows.RowEncoder.{RowEncoder}

-- the types of the columns
abbrev pub encoder_types : RowEncoder → List TypeTree
encoder_types e = map type_of e.dtypes.now

-- how each column is sorted
abbrev pub encoder_options : RowEncoder → List SortOptions
encoder_options e = e.options.now
