-- What is left gets shorter; of the lines of columns, the first ones are those so far. Each column so far has a name.
use Rattle.std.proofs.Common.{◌≡◌, ◌++◌, List, length}
use denote.Shadow.{shadow}
use denote.Text.{Utf8}
use Rattle.csv_columns.specs.Setups.{ColumnValue, HaveNames, column_lines, column_values}
use Rattle.csv_columns.proofs.setup.columns_of_lines.Given as goal

abbrev pub invariant-loop-rest : goal.invariant-loop-rest
invariant-loop-rest l =
    ((columns : List ColumnValue) → HaveNames columns → l.lines ≡ column_lines columns
    → (others : List ColumnValue) × HaveNames others × (l.rest ≡ column_lines others) × (columns ≡ column_values l.columns.items ++ others))
    × shadow (Utf8 l.rest)
    × HaveNames (column_values l.columns.items)

abbrev pub decreases-loop-rest : goal.decreases-loop-rest
decreases-loop-rest l = length l.rest
