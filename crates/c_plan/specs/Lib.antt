-- Planning by numbers: planning between what numbers mean, and what is told of a list that is written.
pub mod Planned
pub mod Sent
