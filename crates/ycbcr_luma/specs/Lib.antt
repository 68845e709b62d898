-- RGB to YCbCr over bytes by the weights, and how far there and back may move a pixel.
pub mod Ycbcr
pub mod Near
