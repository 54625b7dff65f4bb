mod BitSteps
mod CellColumns
mod CellSteps
mod ColumnSteps
mod ColumnsRead
pub mod GivenSteps
mod LawSteps
mod NullSteps
mod NumberSteps
mod RowLaws
mod RowSteps
mod RowsRead
mod StoredSteps
mod StringSteps
mod TableLaws
mod TableSteps
mod TypeSteps
mod ValueSteps
