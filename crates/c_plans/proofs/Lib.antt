-- Theorems: Untouched (what a refused call leaves and tells), ReadBack (what was sent is read back, and what is written again is the same block), Determined.
pub mod Untouched
pub mod ReadBack
pub mod Determined
