mod Columns
mod Made
mod Sorted
mod TypeNames
