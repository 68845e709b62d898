-- Theorems: Exactly (when a list passes, and when it is refused), EndWidth (the end width that a list holds), Building (what pushes build),
-- Ending (the width that ops lead to), Determined.
pub mod Exactly
pub mod EndWidth
pub mod Building
pub mod Ending
pub mod Determined
-- the tests for refusal 10
pub mod Formed
-- laws of these, and of loops over the ops
pub mod Judging
pub mod Fitting
pub mod Bounds
pub mod Owned
pub mod Walk
pub mod Turn
