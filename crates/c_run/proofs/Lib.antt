-- Theorems: Refused (what a refused call leaves and tells), Determined.
pub mod Refused
pub mod Determined
