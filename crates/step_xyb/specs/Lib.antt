-- `Xyb` is what inverting XYB makes of a sample. `Steps` is what its private steps promise each other.
pub mod Xyb
pub mod Steps
