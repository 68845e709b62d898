-- Channels as lists of samples, one after the other too, and what an op's own step on them answers.
pub mod Channels
pub mod Joined
pub mod Stepping
