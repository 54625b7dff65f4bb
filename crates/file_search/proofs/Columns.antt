-- The columns of a setup, as filters name them.
use Rattle.std.proofs.Common.{◌≡◌, ◌<◌, ◌≤◌, ◌+◌, ◌++◌, ◌∷◌, ℕ, List, [], ap, ap₂, ◌∙◌, sym, get_or, length, map, take, take_all}
use Rattle.std.proofs.lemmas.Grind.{take_at_read}
use Rattle.std.proofs.lemmas.List.{map-append}
use Rattle.csv_columns.specs.declared.column_words.NamedColumn.{NamedColumn}
use Rattle.filter_sql.specs.ColumnNames.{ColumnTree, column_tree, column_trees}
use Rattle.filter_sql.specs.declared.column.Column.{Column}
use Rattle.file_search.specs.Sought.{tree_of_named, trees_of_named}

pub trees_more : (columns : List NamedColumn) (k : ℕ) (here : NamedColumn) (named more : List Column) (x : Column) → k < length columns → here ≡ get_or columns k here → column_trees named ≡ trees_of_named (take k columns) → column_tree x ≡ tree_of_named here → more ≡ named ++ x ∷ []
    → column_trees more ≡ trees_of_named (take (k + 1) columns)
trees_more columns k here named more x inside is all one pushed =
    let next : take (k + 1) columns ≡ take k columns ++ here ∷ [] = (take_at_read columns k here inside).1 ∙ ap (λ (y : NamedColumn). take k columns ++ y ∷ []) (sym is) in
    ap column_trees pushed ∙ map-append column_tree named (x ∷ []) ∙ ap₂ (λ (xs : List ColumnTree) (y : ColumnTree). xs ++ y ∷ []) all one
    ∙ sym (map-append tree_of_named (take k columns) (here ∷ [])) ∙ ap trees_of_named (sym next)

pub trees_all : (columns : List NamedColumn) (k : ℕ) (named : List Column) → length columns ≤ k → column_trees named ≡ trees_of_named (take k columns) → column_trees named ≡ trees_of_named columns
trees_all columns k named ended before = before ∙ ap trees_of_named (take_all k columns ended)
