-- What was found stands before what the rest of the columns has.
use Rattle.std.specs.Prelude.{◌++◌, ℕ, List, drop, map}
use Rattle.std.specs.Option.{option_to_list}
use Rattle.filter_sql.specs.ColumnNames.{column_trees}
use Rattle.filter_sql.specs.OwnNames.{AreNamedLike}
use Rattle.filter_sql.proofs.own_names.only_name.Given as goal

abbrev pub invariant-loop-column : goal.invariant-loop-column
invariant-loop-column l = (ns : List (List ℕ)) → AreNamedLike l.name (column_trees (drop l.column-index l.columns)) ns
    → AreNamedLike l.name (column_trees l.columns) (map (λ s. s.now) (option_to_list l.found) ++ ns)
