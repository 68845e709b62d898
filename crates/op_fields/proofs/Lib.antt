-- Theorems: Back (an op from its parts, and the parts from the op), Numbers (a curve from its number, and the number from the curve), Determined.
pub mod Back
pub mod Numbers
pub mod Determined
-- laws of the kinds, and of the code
pub mod EachKind
pub mod Cells
pub mod Below
