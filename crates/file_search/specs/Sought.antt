-- What is sought, by the text of a setup and by words.
use Rattle.std.specs.Prelude.{◌≡◌, ◌≢◌, ℕ, List, IsUtf8, map, string_bytes}
use Rattle.csv_columns.specs.Setups.{IsDelimiter, IsSchema, IsSetup, SetupValue, setup_text, setup_value}
use Rattle.csv_columns.specs.declared.column_words.NamedColumn.{NamedColumn}
use Rattle.csv_columns.specs.declared.setup.Setup.{Setup}
use Rattle.filter_sql.specs.ColumnNames.{ColumnTree}
use Rattle.filter_sql.specs.OwnNames.{AreRefused, IsFilterOf}
use Rattle.record_rows.specs.Cells.{column_type}
use Rattle.record_rows.specs.declared.schema.Schema.{Schema}
use Rattle.record_search.specs.Searched.{decision_of}
use Rattle.vortex_filter.specs.Formula.{Formula}
use Rattle.zone_index.specs.declared.zones.Zone.{Zone}
use Rattle.zone_scans.specs.Planning.{planned_from}
use Rattle.zone_scans.specs.declared.planning.PlannedZone.{PlannedZone}
use Rattle.file_search.specs.declared.sought.SoughtError.{SoughtError}
use Rattle.file_search.specs.declared.sought.SoughtError.TheVariants.{NoFilter, NoMemory, NoSetup, NotUtf8}

-- ---- setups

-- the bytes are the text of this setup
pub record IsSetupOf (text : List ℕ) (setup : Setup) : Type 0 where
  pub valid : IsSetup (setup_value setup)
  pub is : text ≡ setup_text (setup_value setup)

-- a column of a setup by its name and its type
abbrev pub tree_of_named : NamedColumn → ColumnTree
tree_of_named named = record { name = string_bytes named.name; typed = column_type named.column }

abbrev pub trees_of_named : List NamedColumn → List ColumnTree
trees_of_named columns = map tree_of_named columns

-- no memory was left, or a text in UTF-8 is of no setup that has a delimiter
abbrev pub IsUnread : List ℕ → SoughtError → Type 0
IsUnread text NoMemory = Unit {0}
IsUnread text NoSetup = (s : SetupValue) → IsSetup s → IsDelimiter s.numbers.delimiter → IsUtf8 text → text ≢ setup_text s
IsUnread text NotUtf8 = ⊥
IsUnread text (NoFilter cause) = ⊥

-- ---- words

-- why there is no filter over these columns
abbrev pub NoFilterFor : ℕ → List ColumnTree → List ℕ → SoughtError → Type 0
NoFilterFor depth columns words NoMemory = Unit {0}
NoFilterFor depth columns words NoSetup = ⊥
NoFilterFor depth columns words NotUtf8 = ⊥
NoFilterFor depth columns words (NoFilter cause) = AreRefused depth columns words cause

-- ---- both

-- what is sought, by the text of a setup and by words
pub record IsSought (depth : ℕ) (text words : List ℕ) (schema : Schema) (f : Formula) : Type 0 where
  pub setup : Setup
  pub is : IsSetupOf text setup
  pub schema_is : IsSchema setup schema
  pub filter : IsFilterOf depth (trees_of_named setup.columns.items) words f

-- words that are no filter over the columns of a setup, whose text this is
pub record IsNoFilter (depth : ℕ) (text words : List ℕ) (e : SoughtError) : Type 0 where
  pub setup : Setup
  pub is : IsSetupOf text setup
  pub none : NoFilterFor depth (trees_of_named setup.columns.items) words e

-- why nothing is sought: words that are not UTF-8 come first, and then the setup
abbrev pub IsUnsought : ℕ → List ℕ → List ℕ → SoughtError → Type 0
IsUnsought depth text words NoMemory = IsUtf8 words
IsUnsought depth text words NoSetup = IsUtf8 words × IsUnread text NoSetup
IsUnsought depth text words NotUtf8 = ¬ (IsUtf8 words)
IsUnsought depth text words (NoFilter cause) = IsNoFilter depth text words (NoFilter cause)

-- ---- plans

-- what becomes of the zones of an index in a search for the rows on which the formula is True
abbrev pub planned_rows : Schema → Formula → List Zone → List PlannedZone
planned_rows schema f zones = planned_from (decision_of schema.columns.items f) 0 zones
