mod AsciiMarks
pub mod CellLaws
mod CsvReads
mod NullWords
mod ObservedFields
pub mod Reading
mod Typed
mod Walking
mod Wanting
mod Within
