mod CellLaws
mod ContentLaws
mod FormatValues
mod KindRanges
pub mod TableSteps
mod TypeLaws
mod TypeSteps
mod ValueSteps
