-- Theorem: Determined.
pub mod Determined
