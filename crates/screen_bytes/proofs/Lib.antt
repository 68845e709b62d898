-- Theorems: Nearest (the rule holds of one number, which is within 0 to 255), OnlyTie, Exactly (when the conversion is refused, and that it changes
-- nothing then), Readings, Determined.
pub mod Nearest
pub mod OnlyTie
pub mod Exactly
pub mod Readings
pub mod Determined
-- laws: what clipping leaves, the nearest whole number, a clipped sample's byte, ties, the sum in f64
pub mod Clipped
pub mod Closest
pub mod Byte
pub mod Halves
pub mod Sum
