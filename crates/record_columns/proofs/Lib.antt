mod BufferSteps
mod KindValues
mod RowSteps
mod WordValues
