mod Compared
mod FloatCells
mod ZoneRows
