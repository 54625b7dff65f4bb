mod ColumnSteps
mod Covering
mod Deciding
mod RowSteps
mod ZoneSteps
