-- Columns as a text that lists them.
use Rattle.std.specs.Prelude.{◌≢◌, ◌++◌, ◌==◌, ◌||◌, ℕ, List, [], ◌∷◌, All, AllPairs, Bool, codes, if◌then◌else◌}
use Rattle.std.specs.Char.{is_ascii_alphanumeric}
use Rattle.std.specs.List.{flat_map, list_all}
use Rattle.csv_columns.specs.Guesses.{column_names}
use Rattle.csv_columns.specs.Names.{IsName}
use Rattle.csv_columns.specs.Setups.{ColumnValue, kind_text}
use Rattle.csv_columns.specs.declared.column_words.NamedColumn.{NamedColumn}
use Rattle.filter_sql.specs.Words.{quoted}

-- each column has a name, and no two have the same
pub record AreApart (columns : List NamedColumn) : Type 0 where
  pub valid : All IsName (column_names columns)
  pub distinct : AllPairs (λ a b. a ≢ b) (column_names columns)

-- whether a name has letters, digits, _ and $ alone
abbrev pub is_plain_name : List ℕ → Bool
is_plain_name name = list_all (λ b. is_ascii_alphanumeric b || (b == 95) || (b == 36)) name

-- a name as it stands, or in quotes with each quote doubled
abbrev pub name_text : List ℕ → List ℕ
name_text name = if is_plain_name name then name else quoted 34 name

-- a name and a kind, with a blank between them
abbrev pub column_text : ColumnValue → List ℕ
column_text c = name_text c.name ++ 32 ∷ kind_text c.column

-- a comma and a blank stand between two columns
abbrev pub list_text : List ColumnValue → List ℕ
list_text [] = []
list_text (c ∷ cs) = column_text c ++ flat_map (λ d. codes ", " ++ column_text d) cs

-- a column behind a list
abbrev pub listed_behind : List ℕ → ColumnValue → List ℕ
listed_behind [] c = column_text c
listed_behind (b ∷ bs) c = (b ∷ bs) ++ (codes ", " ++ column_text c)
