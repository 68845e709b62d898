-- Theorems: Rules (the lines are those of the words), Between (a widened byte lies between the two it was made from), Equal (equal bytes come
-- back), Local (what a widened byte depends on, and a strip), Exactly (when a line is refused, and that nothing changes then), Readings (lines
-- worked out by hand), Determined.
pub mod Rules
pub mod Between
pub mod Equal
pub mod Local
pub mod Exactly
pub mod Readings
pub mod Determined
-- which lengths fit; a line by its index rule
pub mod Twice
pub mod Lines
