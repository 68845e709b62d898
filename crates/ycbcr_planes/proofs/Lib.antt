-- Theorems: Exactly (when six lengths are equal), Places (each pixel is converted at its place), Determined.
pub mod Exactly
pub mod Places
pub mod Determined
-- a loop that writes a pixel at each place
pub mod Placing
