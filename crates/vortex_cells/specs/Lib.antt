pub mod Cells
pub mod Variants
pub mod Words
