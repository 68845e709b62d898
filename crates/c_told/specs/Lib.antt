-- The four numbers that C is told of a run.
pub mod Told
