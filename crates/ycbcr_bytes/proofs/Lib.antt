-- Theorems: Determined.
pub mod Determined
