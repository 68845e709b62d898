-- Theorems: Exactly (when a step is refused, and that it changes nothing then), Determined.
pub mod Exactly
pub mod Determined
-- loops over three channels, for any element and any function of a row; and in place at f32, place by place and piece by piece
pub mod Rows
pub mod Across
pub mod InStep
pub mod Pieces
-- channels one after the other
pub mod Joining
-- the test of three lengths, answers that a test chooses, and tests made of two
pub mod Lengths
pub mod Choosing
pub mod Holds
