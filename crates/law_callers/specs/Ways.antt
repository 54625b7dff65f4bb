-- Ways there and back.
use Rattle.column_keys.specs.declared.errors.TableError.{TableError}
use Rattle.law_callers.specs.declared.columns_of_keys.WayError.{WayError}
use Rattle.law_callers.specs.declared.columns_of_keys.WayError.TheVariants.{NoKeys, NotRead}

-- this holds of the fault for which rows have no keys
abbrev pub IfNoKeys : (TableError → Type 0) → WayError → Type 0
IfNoKeys P (NoKeys fault) = P fault
IfNoKeys P (NotRead fault) = Unit {0}
