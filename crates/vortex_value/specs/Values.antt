-- Raw values and scalars as plain trees and contents.
pub mod Content
pub mod RawKinds
pub mod RawOf
pub mod RawTree
pub mod Refs
pub mod Scalars
