pub mod Equality
pub mod LiteralSteps
pub mod Soundness
pub mod Steps
