-- Theorems: Exactly (when each answer is given, and what the buffer holds then), Told (the end width that version 2 tells), Lengths (how long
-- a block is), Example, Determined.
pub mod Exactly
pub mod Told
pub mod Lengths
pub mod Example
pub mod Determined
-- their laws
pub mod Sorting
pub mod Badness
