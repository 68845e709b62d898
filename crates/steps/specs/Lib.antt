-- What the steps make of the samples.
pub mod Samples
