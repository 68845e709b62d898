-- Theorems: Refusals (each number exactly when 01's table says, and what a refused plan is), Matrices (none beside another), Determined.
pub mod Refusals
pub mod Matrices
pub mod Determined
-- their laws, and those of the functions' proofs
pub mod Sorting
pub mod Building
