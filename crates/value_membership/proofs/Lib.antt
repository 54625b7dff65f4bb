pub mod Equality
pub mod MemberLaws
pub mod NullSteps
