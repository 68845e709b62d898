-- Theorems: Grouping (the groups are the longest runs), Keeps (the verdict and the end width), Settled (merging again), Refusals (10),
-- Determined.
pub mod Grouping
pub mod Keeps
pub mod Settled
pub mod Refusals
pub mod Determined
-- their laws, and those of the loop
pub mod Front
pub mod Fitting
pub mod Regrouping
pub mod Turn
