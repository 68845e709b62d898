-- `Root` is what `cbrt` promises. `Steps` is what its private steps promise each other.
pub mod Root
pub mod Steps
