-- Proofs that trait implementations and crates above cite.
pub mod EqualityLaws
pub mod HashLaws
pub mod ItemLaws
pub mod VariantPlaces
