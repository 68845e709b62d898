-- Theorems: ThereAndBack (no pixel of three channels moves by more than 1), Determined.
pub mod ThereAndBack
pub mod Determined
