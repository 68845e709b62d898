-- The weights of red, green and blue in luma, and YCbCr to RGB by them.
pub mod Weights
pub mod Rgb
