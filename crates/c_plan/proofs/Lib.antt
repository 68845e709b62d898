-- Theorems: Untouched (what a refused plan leaves and tells), Determined.
pub mod Untouched
pub mod Determined
-- laws of a list that is sent
pub mod Sending
