mod CompleteLaws
mod ContentLaws
mod CutLaws
mod EncodingLaws
mod IntegerRanges
mod ItemLaws
mod KindLaws
mod RightLaws
pub mod ValueLaws
