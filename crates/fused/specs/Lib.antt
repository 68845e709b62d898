-- `Fused` is what `mul_add` promises. `Steps` is what its private steps promise each other.
pub mod Fused
pub mod Steps
