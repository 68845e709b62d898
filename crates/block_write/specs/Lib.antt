-- The bytes of a list, what writing answers and leaves, and in words when each answer is given.
pub mod Bytes
pub mod Writing
pub mod Refusals
