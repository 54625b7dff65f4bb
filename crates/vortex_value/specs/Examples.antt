-- Worked cases of the definitions, each a theorem.
pub mod CastExamples
pub mod ChainExamples
pub mod ConversionExamples
pub mod TextExamples
pub mod ValueExamples
pub mod ZeroExamples
