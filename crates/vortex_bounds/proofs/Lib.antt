pub mod BoundLaws
pub mod ByteOrder
pub mod NextString
pub mod ScalarBounds
pub mod StringBounds
pub mod TextBounds
pub mod TextOrder
