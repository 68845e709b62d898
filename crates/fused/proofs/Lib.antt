-- Laws behind `mul_add`, from whole numbers up to `fused`, by f64, and by f32 alone; the facts of the spec; and that the contract determines the answer.
pub mod Shifts
pub mod Jammed
pub mod Settled
pub mod Added
pub mod Special
pub mod Product
pub mod Twice
pub mod ByParts
pub mod Readings
pub mod Determined
