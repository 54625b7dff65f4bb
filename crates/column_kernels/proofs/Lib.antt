pub mod CellSteps
mod EvaluationSteps
mod FloatSteps
mod MaskSteps
mod MemberSteps
mod NeedleSteps
pub mod RowTests
