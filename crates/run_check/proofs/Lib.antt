-- Theorems: Exactly (when each judgement is given), Determined.
pub mod Exactly
pub mod Determined
-- their laws, and those of the search
pub mod Judged
pub mod Telling
pub mod Carrying
pub mod Turn
