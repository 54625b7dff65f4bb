pub mod ConversionLaws
pub mod Conversions
pub mod Words
