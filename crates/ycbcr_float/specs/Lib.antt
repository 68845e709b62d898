-- `Ycbcr` is what YCbCr to RGB makes of a sample, by weights. `Steps` is what its private steps promise each other.
pub mod Ycbcr
pub mod Steps
