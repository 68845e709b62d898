-- Theorems: Exactly (when each answer is given), Lawfulness (the list that is read), Prefixes, Follows and Enough (which bytes are looked at),
-- First (version 1 is read as it was), Layouts (the bytes of each kind), Determined.
pub mod Exactly
pub mod Lawfulness
pub mod Prefixes
pub mod Follows
pub mod Enough
pub mod First
pub mod Layouts
pub mod Determined
-- their laws
pub mod Badness
pub mod Ways
pub mod Versions
pub mod Judging
pub mod Heads
-- laws of the code
pub mod Walking
pub mod Laid
pub mod Front
pub mod Turn
