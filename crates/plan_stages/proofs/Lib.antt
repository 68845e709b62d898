-- Theorems: Length (at most 10 ops before merging), Decimals (the constants), Determined.
pub mod Length
pub mod Decimals
pub mod Determined
-- a law of the functions' proofs
pub mod Appending
