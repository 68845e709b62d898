-- What is said of encodings: the custom points, comparison, channels and HDR, equivalence, ranges; and the ICC channel count.
pub mod Custom
pub mod Named
pub mod Encodings
pub mod Equivalence
pub mod Ranges
pub mod Icc
