mod CellLaws
mod Compared
mod DecimalBound
mod Decimals
mod Finer
mod FloatOrder
mod PlaceOrder
mod Values
