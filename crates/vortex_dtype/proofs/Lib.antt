pub mod HeldParts
pub mod NullableLaws
pub mod PlaceLaws
