-- Theorems: Enough (the buffer is always large enough), Front (so many bytes decide), Versions (what either version prints), Example, Determined.
pub mod Enough
pub mod Front
pub mod Versions
pub mod Example
pub mod Determined
-- their laws
pub mod Small
