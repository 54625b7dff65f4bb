pub mod CopySteps
pub mod FieldSteps
pub mod IteratorSteps
pub mod KindSteps
pub mod PartSteps
pub mod UnionSteps
