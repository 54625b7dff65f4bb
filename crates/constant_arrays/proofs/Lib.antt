mod Repeated
mod Rows
mod EqualColumns
mod FoldingLaws
