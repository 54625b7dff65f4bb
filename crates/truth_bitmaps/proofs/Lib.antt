pub mod BitSteps
pub mod TruthSteps
pub mod BlockSteps
pub mod ByteSteps
pub mod RowSteps
