-- The numbers by which a pixel is converted with no division, and when they are right for weights.
pub mod Numbers
pub mod Steps
