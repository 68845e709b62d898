-- Theorems: Means (which weights a firmware means), Exactly (when a conversion is refused, and that it then changes nothing), Determined.
pub mod Means
pub mod Exactly
pub mod Determined
