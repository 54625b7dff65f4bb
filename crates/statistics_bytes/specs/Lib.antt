pub mod Examples
pub mod Encoding
pub mod EncodingAnswers
pub mod EncodingSteps
pub mod Pieces
pub mod Words
