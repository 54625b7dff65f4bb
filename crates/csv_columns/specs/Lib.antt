pub mod GuessExamples
pub mod Guesses
pub mod KindExamples
pub mod Kinds
pub mod Names
pub mod Setups
