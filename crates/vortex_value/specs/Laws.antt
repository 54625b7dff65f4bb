-- What holds of all casts, which contents a type has, and the zero and the default of each type.
pub mod CastLaws
pub mod HasContent
pub mod ZeroCases
