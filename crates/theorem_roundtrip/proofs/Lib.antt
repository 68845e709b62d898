-- Theorems: ReadBack (what was written is read as the same list), Rewriting (a block that is read is written again), Retired (one with
-- curve 3 is not), Nine (when the writer refuses a list as the reader would), Owned (every list that code holds is `Typed`).
pub mod ReadBack
pub mod Rewriting
pub mod Retired
pub mod Nine
pub mod Owned
-- their laws: words, values, ops, and the bytes of a list
pub mod Words
pub mod Values
pub mod Ops
pub mod Laid
