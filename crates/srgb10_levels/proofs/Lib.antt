-- Theorems: Exactly (when each answer is given, and what is left then), Determined.
pub mod Exactly
pub mod Determined
-- laws: whether a code is above 1023, from each place on
pub mod Codes
