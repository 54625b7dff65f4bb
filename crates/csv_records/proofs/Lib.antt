pub mod Cutting
pub mod Fielding
mod Marks
pub mod ReadLaws
pub mod RowCuts
pub mod Walking
