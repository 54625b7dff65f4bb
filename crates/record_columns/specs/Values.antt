-- Scalars that are values of columns, as columns in Arrow's layout take them.
use Rattle.std.specs.Global.{Global}
use Rattle.std.specs.List.{All}
use Rattle.std.specs.Prelude.{List, [], ◌∷◌, Vec}
use Rattle.column_cells.specs.Types.{type_of_kind}
use Rattle.column_items.specs.Numbers.{HasContentOf}
use Rattle.record_rows.specs.declared.schema.ColumnType.{ColumnType}
use Rattle.vortex_value.specs.Validity.{Valid}
use Rattle.vortex_value.specs.Values.Scalars.{scalar_content, scalar_raw}
use Rattle.vortex_value.specs.declared.scalars.Scalar.{Scalar}
use Rattle.record_columns.specs.Kinds.{kind_of_column}

-- the scalar is null, or a value of the column
pub record IsValueIn (c : ColumnType) (x : Scalar) : Type 0 where
  pub valid : Valid (type_of_kind (kind_of_column c)) (scalar_raw x)
  pub stored : HasContentOf (kind_of_column c) (scalar_content x)

-- each is one of its column, and there are as many as columns
abbrev pub AreValuesIn : List ColumnType → List Scalar → Type 0
AreValuesIn [] [] = Unit {0}
AreValuesIn [] (x ∷ xs) = ⊥
AreValuesIn (c ∷ cs) [] = ⊥
AreValuesIn (c ∷ cs) (x ∷ xs) = IsValueIn c x × AreValuesIn cs xs

-- so are the scalars of each row
abbrev pub HaveValues : List ColumnType → List (Vec Scalar Global) → Type 0
HaveValues columns rows = All (λ row. AreValuesIn columns row.items) rows
