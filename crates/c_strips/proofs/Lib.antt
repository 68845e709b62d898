-- Theorems: Standing (the words that a call leaves stand for the state that the machine's call leaves), Whole (strips end with the samples, the width and
-- the count of a single run), Refused (what a refused call leaves and tells), Determined.
pub mod Standing
pub mod Whole
pub mod Refused
pub mod Determined
