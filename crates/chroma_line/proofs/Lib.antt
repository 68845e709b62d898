-- Theorems: TwoSteps (the line is widening both and then converting), Exactly (when the lengths of a line fit), Determined.
pub mod TwoSteps
pub mod Exactly
pub mod Determined
