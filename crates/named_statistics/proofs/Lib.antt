pub mod NameLaws
pub mod NamedSteps
pub mod PieceSteps
