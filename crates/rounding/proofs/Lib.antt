-- Theorems on two roundings, the first to 53 digits and the second to 24: Cut (the second by three operations), Midpoint (where the
-- first does not end half way between two values of f32), ByPattern (there, the second by the pattern); Determined.
pub mod Cut
pub mod Midpoint
pub mod ByPattern
pub mod Determined
-- on f32 alone: Lost (what a product loses by its rounding), by Differences (sums of whole numbers of a unit, and which are exact)
pub mod Differences
pub mod Lost
-- laws: the nearest whole number, one rounding, sums, what is exact at f64, a number of 53 digits at each format, where the digits of an
-- f32 stand, and what a sum says of its parts
pub mod Closest
pub mod Rounding
pub mod Sums
pub mod Exact
pub mod Single
pub mod Placed
pub mod Unsigned
