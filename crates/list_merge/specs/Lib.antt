-- The groups of a list, the merged list, and what the steps of merging answer.
pub mod Groups
pub mod Merge
pub mod Steps
