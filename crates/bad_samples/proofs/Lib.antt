-- Theorems: Joined (counts of channels that are joined), Determined.
pub mod Joined
pub mod Determined
-- sums that are held, the loop over a channel, and the test of a sample
pub mod Held
pub mod Counting
pub mod Infinite
