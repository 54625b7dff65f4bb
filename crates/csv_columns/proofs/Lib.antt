pub mod Clear
pub mod Columns
pub mod GuessLaws
pub mod KindWords
pub mod Naming
pub mod NullLines
pub mod PlainNumbers
