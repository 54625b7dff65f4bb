-- Why a search has no answer, as it is told.
use Rattle.std.specs.Prelude.{ℕ}
use Rattle.file_search.specs.declared.index_bytes.PlanError.{PlanError}
use Rattle.file_search.specs.declared.index_bytes.PlanError.TheVariants as plans
use Rattle.file_search.specs.declared.sought.SoughtError.{SoughtError}
use Rattle.file_search.specs.declared.sought.SoughtError.TheVariants as soughts
use Rattle.zone_index.specs.declared.encoding.EncodingError.{EncodingError}
use Rattle.zone_index.specs.declared.encoding.EncodingError.TheVariants.{Damaged, Magic, Short, Trailing, Version}
use Rattle.zone_index.specs.declared.errors.Cause.{Cause}
use Rattle.zone_index.specs.declared.errors.Cause.TheVariants.{FieldCount, LoneReturn, Word}
use Rattle.zone_index.specs.declared.errors.SearchError.{SearchError}
use Rattle.zone_index.specs.declared.errors.SearchError.TheVariants as searches
use Rattle.vortex_c.specs.FilterSql.{code_of_mistake, place_of_mistake}
use Rattle.vortex_c.specs.declared.search_faults.SearchFault.{SearchFault}
use Rattle.vortex_c.specs.declared.status.TheConstants.{BAD_BYTES, BAD_FILTER, BAD_OFFSETS, NOT_UTF8, NO_MEMORY, REFUSED}

-- what is wrong with the bytes of an index, by its code
abbrev pub code_of_fault : EncodingError → ℕ
code_of_fault Short = 0
code_of_fault Magic = 1
code_of_fault Version = 2
code_of_fault Damaged = 3
code_of_fault Trailing = 4

abbrev pub told_at : ℕ → ℕ → ℕ → SearchFault
told_at place column reason = record { place = place; column = column; reason = reason }

abbrev pub status_of_sought : SoughtError → ℕ
status_of_sought soughts.NoMemory = NO_MEMORY
status_of_sought soughts.NoSetup = BAD_BYTES
status_of_sought soughts.NotUtf8 = NOT_UTF8
status_of_sought (soughts.NoFilter cause) = BAD_FILTER

-- what is told, if this was there before
abbrev pub fault_of_sought : SoughtError → SearchFault → SearchFault
fault_of_sought soughts.NoMemory before = before
fault_of_sought soughts.NoSetup before = told_at 0 2 0
fault_of_sought soughts.NotUtf8 before = told_at 0 0 0
fault_of_sought (soughts.NoFilter cause) before = told_at (place_of_mistake cause) 0 (code_of_mistake cause)

abbrev pub status_of_plan : PlanError → ℕ
status_of_plan plans.NoMemory = NO_MEMORY
status_of_plan (plans.BadRoot fault) = BAD_BYTES
status_of_plan (plans.BadBlocks fault) = BAD_BYTES
status_of_plan (plans.Unsought cause) = status_of_sought cause
status_of_plan (plans.FarZone zone) = BAD_OFFSETS

abbrev pub fault_of_plan : PlanError → SearchFault → SearchFault
fault_of_plan plans.NoMemory before = before
fault_of_plan (plans.BadRoot fault) before = told_at 0 0 (code_of_fault fault)
fault_of_plan (plans.BadBlocks fault) before = told_at 0 1 (code_of_fault fault)
fault_of_plan (plans.Unsought cause) before = fault_of_sought cause before
fault_of_plan (plans.FarZone zone) before = told_at zone 0 0

-- why a record is no row, by its code, and the column that does not take its field
abbrev pub code_of_cause : Cause → ℕ
code_of_cause (Word column word) = 0
code_of_cause FieldCount = 1
code_of_cause LoneReturn = 2

abbrev pub column_of_cause : Cause → ℕ
column_of_cause (Word column word) = column
column_of_cause FieldCount = 0
column_of_cause LoneReturn = 0

-- of a search in a text: memory ran out, or a record is refused
abbrev pub status_of_search : SearchError → ℕ
status_of_search (searches.Refused refusal) = REFUSED
status_of_search searches.Read = NO_MEMORY
status_of_search searches.CutShort = NO_MEMORY
status_of_search searches.TooFar = NO_MEMORY
status_of_search searches.Write = NO_MEMORY
status_of_search searches.Memory = NO_MEMORY

abbrev pub fault_of_search : SearchError → SearchFault → SearchFault
fault_of_search (searches.Refused refusal) before = told_at refusal.place (column_of_cause refusal.cause) (code_of_cause refusal.cause)
fault_of_search searches.Read before = before
fault_of_search searches.CutShort before = before
fault_of_search searches.TooFar before = before
fault_of_search searches.Write before = before
fault_of_search searches.Memory before = before
