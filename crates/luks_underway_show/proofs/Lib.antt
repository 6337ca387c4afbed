mod Counting
mod ItemFacts
mod ReencryptFacts
mod KeyslotFacts
mod SegmentFacts
mod ObjectFacts
mod ValueFacts
