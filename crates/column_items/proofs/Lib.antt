mod ByteSteps
pub mod FormatTypes
pub mod ItemFits
pub mod NumberSteps
pub mod WideSteps
