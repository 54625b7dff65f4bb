-- Laws of the definitions, for proofs.
pub mod RecordLaws
