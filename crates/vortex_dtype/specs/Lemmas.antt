-- Proofs that trait implementations and crates above cite.
pub mod TypeLaws
pub mod TypeLevels
pub mod TypeSize
