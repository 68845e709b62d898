-- The f32 level of a code; what the conversion of a lent slice of codes answers and leaves, and in words when each answer is given.
pub mod Levels
pub mod Levelling
pub mod Refusals
