-- Laws behind `cbrt`; that the nearest root is unique and that none is nearer; and that the contract determines the answer.
pub mod Cubes
pub mod Digits
pub mod Scaling
pub mod Near
pub mod Put
pub mod Self
pub mod Gaps
pub mod NoTie
pub mod Stretch
pub mod Unique
pub mod Found
pub mod Readings
pub mod Determined
