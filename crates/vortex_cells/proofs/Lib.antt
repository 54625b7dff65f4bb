pub mod CellLaws
pub mod VariantSteps
